-- Munch of every word: it exists, it is the only one, and it accounts for every byte.
use Rattle.std.proofs.Common.{◌≡◌, ℕ, zero, suc, ◌+◌, ◌≤◌, List, [], ◌∷◌, length, drop, sym, refl, ap, ◌∙◌, subst, inl, inr, ⊎_elim, arith}
use Rattle.std.proofs.lemmas.List.{length-drop}
use Rattle.tables.specs.Table.{Table}
use Rattle.munch.specs.Laws.{EndToEnd, EndsAt, MunchLaw}
use Rattle.munch.specs.Munch.{End, Ends, First, Munch, Token, done, fails}
use Rattle.munch.proofs.Accepting.{first_one, first_or, first_some, first_within}

module _ (t : Table) where
  -- Munch of a word, whatever it is.
  pub record Munched (p : ℕ) (w : List ℕ) : Type 0 where
    pub tokens : List Token
    pub end : End
    pub munch : Munch t p w tokens end

  munched_by : (n p : ℕ) (w : List ℕ) → length w ≤ n → Munched p w
  munched_by n p [] few = record { tokens = []; end = done; munch = inl (refl, refl) }
  munched_by zero p (b ∷ w) few = absurd (omega arith)
  munched_by (suc n) p (b ∷ w) few =
      ⊎_elim
      (λ found.
      let x = found.0 in
      let rest = munched_by n (p + x.length) (drop x.length (b ∷ w)) (simp length-drop (omega (arith, first_some t p (b ∷ w) x found.1))) in
      record { tokens = x ∷ rest.tokens; end = rest.end; munch = (found.1, rest.munch) })
      (λ nothing. record { tokens = []; end = fails p; munch = inr (omega arith, nothing, refl) })
      (first_or t p (b ∷ w))

  pub munched : (p : ℕ) (w : List ℕ) → Munched p w
  munched p w = munched_by (length w) p w (omega arith)

  -- a word with a first token has no end before it
  pub first_or_ends : (p : ℕ) (w : List ℕ) (x : Token) (end : End) → First t p w x → Ends t p w end → ⊥
  first_or_ends p w x end first ends =
      ⊎_elim
      (λ empty. omega (arith, first_some t p w x first, first_within t p w x first, ap length empty.0))
      (λ stops. stops.1 x.length first.longest.accepted)
      ends

  ends_one : (p : ℕ) (w : List ℕ) (end other : End) → Ends t p w end → Ends t p w other → end ≡ other
  ends_one p w end other one two =
      ⊎_elim
      (λ a. ⊎_elim (λ b. a.1 ∙ sym b.1) (λ b. absurd (omega (arith, ap length a.0, b.0))) two)
      (λ a. ⊎_elim (λ b. absurd (omega (arith, ap length b.0, a.0))) (λ b. a.2 ∙ sym b.2) two)
      one

  pub munch_one : (p : ℕ) (w : List ℕ) (xs ys : List Token) (end other : End) → Munch t p w xs end → Munch t p w ys other → (xs ≡ ys) × (end ≡ other)
  munch_one p w [] [] end other one two = (refl, ends_one p w end other one two)
  munch_one p w [] (y ∷ ys) end other one two = absurd (first_or_ends p w y end two.0 one)
  munch_one p w (x ∷ xs) [] end other one two = absurd (first_or_ends p w x other one.0 two)
  munch_one p w (x ∷ xs) (y ∷ ys) end other one two =
      let same = first_one t p w x y one.0 two.0 in
      let rest = munch_one (p + y.length) (drop y.length w) xs ys end other (subst (λ (z : Token). Munch t (p + z.length) (drop z.length w) xs end) same one.1) two.1 in
      (cc (same, rest.0), rest.1)

  -- The tokens of munch lie end to end from its place on, up to where it ends.
  pub record Accounted (p : ℕ) (w : List ℕ) (xs : List Token) (end : End) : Type 0 where
    pub stop : ℕ
    pub lie : EndToEnd p xs stop
    pub account : EndsAt (p + length w) end stop

  ends_at : (p : ℕ) (w : List ℕ) (end : End) → Ends t p w end → EndsAt (p + length w) end p
  ends_at p w done ends = ⊎_elim (λ empty. omega (arith, ap length empty.0)) (λ stops. absurd (let z : ◌≡◌ {A = ℕ} 0 1 = cc stops.2 in omega arith)) ends
  ends_at p w (fails q) ends = ⊎_elim (λ empty. absurd (let z : ◌≡◌ {A = ℕ} 0 1 = cc empty.1 in omega arith)) (λ stops. let at : q ≡ p = cc stops.2 in (sym at, omega (arith, at, stops.0))) ends

  pub accounted : (p : ℕ) (w : List ℕ) (xs : List Token) (end : End) → Munch t p w xs end → Accounted p w xs end
  accounted p w [] end munch = record { stop = p; lie = refl; account = ends_at p w end munch }
  accounted p w (x ∷ xs) end munch =
      let rest = accounted (p + x.length) (drop x.length w) xs end munch.1 in
      let within = first_within t p w x munch.0 in
      let whole : p + x.length + length (drop x.length w) ≡ p + length w = simp length-drop (omega arith) in
      record {
        stop = rest.stop;
        lie = (munch.0.place, first_some t p w x munch.0, rest.lie);
        account = subst (λ (n : ℕ). EndsAt n end rest.stop) whole rest.account;
      }

-- Munch of every word exists, is the only one, and accounts for every byte.
pub munch_law : MunchLaw
munch_law t w =
    let made = munched t 0 w in
    let whole = accounted t 0 w made.tokens made.end made.munch in
    record {
      tokens = made.tokens;
      end = made.end;
      munch = made.munch;
      only = λ ys other munch. munch_one t 0 w ys made.tokens other made.end munch made.munch;
      stop = whole.stop;
      lie = whole.lie;
      account = subst (λ (n : ℕ). EndsAt n made.end whole.stop) (omega arith) whole.account;
    }
