-- The token that is due along a beginning of the bytes, and along all of them.
use Rattle.std.proofs.Common.{◌≡◌, ℕ, ◌+◌, ◌-◌, ◌≤◌, Bool, List, [], ◌∷◌, take, drop, sym, ap, ◌∙◌, subst, ⊎_elim, arith}
use Rattle.std.proofs.lemmas.List.{append-nil, drop-take, take-take}
use Rattle.tables.specs.Openness.{Word}
use Rattle.tables.specs.Table.{Table}
use Rattle.munch.specs.Cutting.{ClosesAt, Cut, Due, Stop}
use Rattle.munch.specs.Laws.{Charts}
use Rattle.munch.specs.Munch.{End, First, Munch, Token}
use Rattle.munch.proofs.Accepting.{first_one, first_or}
use Rattle.munch.proofs.Closing.{closes_less, closes_more}
use Rattle.munch.proofs.Settling.{due_first}
use Rattle.munch.proofs.Shutting.{nothing_under}
use Rattle.tables.proofs.Walking.{word_drop}

-- what is left of a beginning behind its first m bytes
pub drop_front : (m j : ℕ) (x : List ℕ) → m ≤ j → drop m (take j x) ≡ take (j - m) (drop m x)
drop_front m j x few =
    let whole : j ≡ m + (j - m) = omega arith in
    ap (λ n. drop m (take n x)) whole ∙ drop-take m (j - m) x

module _ (t : Table) where
  -- The tokens ys are the first ones of the bytes x, one after another.
  abbrev pub Firsts : ℕ → List ℕ → List Token → Type 0
  Firsts p x [] = Unit {0}
  Firsts p x (y ∷ ys) = First t p x y × Firsts (p + y.length) (drop y.length x) ys

  pub munch_firsts : (p : ℕ) (x : List ℕ) (ys : List Token) (end : End) → Munch t p x ys end → Firsts p x ys
  munch_firsts p x [] end munch = tt
  munch_firsts p x (y ∷ ys) end munch = (munch.0, munch_firsts (p + y.length) (drop y.length x) ys end munch.1)

module _ (t : Table) (marks : ℕ → Bool) where
  -- what is due along a beginning is due along the whole, and the other way round if the beginning reaches where the
  -- walk closes
  pub due_more : (p : ℕ) (x : List ℕ) (j : ℕ) (y : Token) → Due t marks p (take j x) y → Due t marks p x y
  due_more p x j y due =
      let whole = closes_more t marks x j due.at due.closes in
      record { at = due.at; closes = whole.1; first = subst (λ (w : List ℕ). First t p w y) (take-take due.at j x whole.0) due.first }

  pub due_less : (p : ℕ) (x : List ℕ) (j : ℕ) (y : Token) (due : Due t marks p x y) → due.at ≤ j → Due t marks p (take j x) y
  due_less p x j y due few = record {
    at = due.at;
    closes = closes_less t marks x j due.at few due.closes;
    first = subst (λ (w : List ℕ). First t p w y) (sym (take-take due.at j x few)) due.first;
  }

  module _ (charts : Charts t marks) where
    pub due_here : (p : ℕ) (x : List ℕ) (y : Token) → Word x → Due t marks p x y → First t p x y
    due_here p x y word due = subst (λ (w : List ℕ). First t p w y) (append-nil x) (due_first t marks charts p x y [] word tt due)

    -- the first token of bytes along which the walk closes is due
    pub here_due : (p : ℕ) (x : List ℕ) (y : Token) (n : ℕ) → Word x → ClosesAt t marks x n → First t p x y → Due t marks p x y
    here_due p x y n word closes first =
        ⊎_elim
        (λ found.
        let due : Due t marks p x found.0 = record { at = n; closes = closes; first = found.1 } in
        let same = first_one t p x found.0 y (due_here p x found.0 word due) first in
        record { at = n; closes = closes; first = subst (λ (z : Token). First t p (take n x) z) same found.1 })
        (λ nothing. absurd (nothing_under t marks charts x n [] word closes tt nothing y.length (rw append-nil first.longest.accepted)))
        (first_or t p (take n x))

    pub cut_firsts : (p : ℕ) (x : List ℕ) (ys : List Token) (stop : Stop) → Word x → Cut t marks p x ys stop → Firsts t p x ys
    cut_firsts p x [] stop word cut = tt
    cut_firsts p x (y ∷ ys) stop word cut = (due_here p x y word cut.0, cut_firsts (p + y.length) (drop y.length x) ys stop (word_drop y.length x word) cut.1)
