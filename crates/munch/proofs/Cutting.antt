-- The cutting of the bytes: it exists, it is the only one, and of no bytes it is none.
use Rattle.std.proofs.Common.{◌≡◌, ℕ, zero, suc, ◌+◌, ◌≤◌, Bool, List, [], ◌∷◌, length, take, drop, sym, refl, ◌∙◌, subst, inl, inr, ⊎_elim, arith}
use Rattle.std.proofs.lemmas.List.{length-drop, length-take}
use Rattle.tables.specs.Table.{Table}
use Rattle.munch.specs.Cutting.{Cut, Due, Stop, stuck, waits}
use Rattle.munch.specs.Munch.{First, Token}
use Rattle.munch.proofs.Accepting.{first_one, first_or, first_some, first_within}
use Rattle.munch.proofs.Closing.{closes_apart, closes_one, closes_or}

module _ (t : Table) (marks : ℕ → Bool) where
  -- a token that is due has a byte, and lies within the bytes up to where the walk closes
  pub due_some : (p : ℕ) (x : List ℕ) (y : Token) → Due t marks p x y → 1 ≤ y.length
  due_some p x y due = first_some t p (take due.at x) y due.first

  pub due_within : (p : ℕ) (x : List ℕ) (y : Token) → (due : Due t marks p x y) → (y.length ≤ due.at) × (due.at ≤ length x)
  due_within p x y due =
      (omega (arith, length-take due.at x, first_within t p (take due.at x) y due.first), due.closes.within)

  -- Some cutting of the bytes.
  pub record SomeCut (p : ℕ) (x : List ℕ) : Type 0 where
    pub tokens : List Token
    pub stop : Stop
    pub cut : Cut t marks p x tokens stop

  cut_by : (n p : ℕ) (x : List ℕ) → length x ≤ n → SomeCut p x
  cut_by zero p x few =
      record { tokens = []; stop = waits; cut = inl ((λ m some less. absurd (omega arith)), refl) }
  cut_by (suc n) p x few =
      ⊎_elim
      (λ found.
      ⊎_elim
      (λ token. on token.0 (record { at = found.0; closes = found.1; first = token.1 }) (λ y less. cut_by n (p + y.length) (drop y.length x) less))
      (λ nothing. record { tokens = []; stop = stuck p; cut = inr (record { at = found.0; closes = found.1; nothing = nothing }, refl) })
      (first_or t p (take found.0 x)))
      (λ open_all. record { tokens = []; stop = waits; cut = inl (open_all, refl) })
      (closes_or t marks x)
    where
      on : (y : Token) → Due t marks p x y → ((z : Token) → length (drop z.length x) ≤ n → SomeCut (p + z.length) (drop z.length x)) → SomeCut p x
      on y due after =
          let rest = after y (simp length-drop (omega (arith, due_some p x y due))) in
          record { tokens = y ∷ rest.tokens; stop = rest.stop; cut = (due, rest.cut) }

  pub cut_of : (p : ℕ) (x : List ℕ) → SomeCut p x
  cut_of p x = cut_by (length x) p x (omega arith)

  pub due_one : (p : ℕ) (x : List ℕ) (y z : Token) → Due t marks p x y → Due t marks p x z → y ≡ z
  due_one p x y z one two =
      first_one t p (take two.at x) y z
      (subst (λ (n : ℕ). First t p (take n x) y) (closes_one t marks x one.at two.at one.closes two.closes) one.first)
      two.first

  -- where a token is due, the cutting does not stop
  pub due_apart : (p : ℕ) (x : List ℕ) (y : Token) (stop : Stop) → Due t marks p x y → Cut t marks p x [] stop → ⊥
  due_apart p x y stop due stops =
      ⊎_elim
      (λ waiting. closes_apart t marks x due.at due.closes waiting.0)
      (λ stays.
      stays.0.nothing y.length
      (subst (λ (n : ℕ). First t p (take n x) y) (closes_one t marks x due.at stays.0.at due.closes stays.0.closes) due.first).longest.accepted)
      stops

  stops_one : (p : ℕ) (x : List ℕ) (stop other : Stop) → Cut t marks p x [] stop → Cut t marks p x [] other → stop ≡ other
  stops_one p x stop other one two =
      ⊎_elim
      (λ a. ⊎_elim (λ b. a.1 ∙ sym b.1) (λ b. absurd (closes_apart t marks x b.0.at b.0.closes a.0)) two)
      (λ a. ⊎_elim (λ b. absurd (closes_apart t marks x a.0.at a.0.closes b.0)) (λ b. a.1 ∙ sym b.1) two)
      one

  pub cut_one : (p : ℕ) (x : List ℕ) (ys zs : List Token) (stop other : Stop) → Cut t marks p x ys stop → Cut t marks p x zs other → (ys ≡ zs) × (stop ≡ other)
  cut_one p x [] [] stop other one two = (refl, stops_one p x stop other one two)
  cut_one p x [] (z ∷ zs) stop other one two = absurd (due_apart p x z stop two.0 one)
  cut_one p x (y ∷ ys) [] stop other one two = absurd (due_apart p x y other one.0 two)
  cut_one p x (y ∷ ys) (z ∷ zs) stop other one two =
      let same = due_one p x y z one.0 two.0 in
      let rest = cut_one (p + z.length) (drop z.length x) ys zs stop other (subst (λ (w : Token). Cut t marks (p + w.length) (drop w.length x) ys stop) same one.1) two.1 in
      (cc (same, rest.0), rest.1)
