-- A walk that stays open: some ending makes a token longer than the bytes, so no token and no failure is settled.
use Rattle.std.proofs.Common.{◌≡◌, ℕ, ◌<◌, Bool, true, List, [], ◌∷◌, ◌++◌, length, sym, refl, ap, ◌∙◌, subst, inl, ⊎_elim, arith}
use Rattle.std.proofs.lemmas.List.{length-append, take_all}
use Rattle.tables.specs.Openness.{Accepts, Word, walk}
use Rattle.tables.specs.Table.{Table}
use Rattle.munch.specs.Cutting.{StaysOpen}
use Rattle.munch.specs.Laws.{Charts}
use Rattle.munch.specs.Munch.{Accepted, End, Ends, First, Munch, Token, done, fails, state_at}
use Rattle.munch.specs.Settling.{Begins, Common}
use Rattle.munch.proofs.Accepting.{first_within}
use Rattle.munch.proofs.Beginning.{common_here}
use Rattle.munch.proofs.Munching.{munched}
use Rattle.munch.proofs.Shutting.{marked_open}
use Rattle.tables.proofs.Walking.{walk_append}

-- An ending that makes the bytes x accepted as a whole, and longer.
pub record Longer (t : Table) (x : List ℕ) : Type 0 where
  pub ending : List ℕ
  pub word : Word ending
  pub some : 0 < length ending
  pub accepted : Accepted t (x ++ ending) (length (x ++ ending))

pub begins_none : (y : Token) (ys : List Token) → Begins (y ∷ ys) [] → ⊥
begins_none y ys begins = let z : ◌≡◌ {A = ℕ} 0 1 = cc begins.1 in omega arith

module _ (t : Table) where
  -- the state after all of a word
  state_all : (w : List ℕ) → state_at t w (length w) ≡ walk t 0 w
  state_all w = ap (walk t 0) (take_all (length w) w (omega arith))

  -- what begins with a token has it as the first
  pub begins_first : (p : ℕ) (w : List ℕ) (y : Token) (ys zs : List Token) (end : End) → Begins (y ∷ ys) zs → Munch t p w zs end → First t p w y
  begins_first p w y ys [] end begins munch = absurd (begins_none y ys begins)
  begins_first p w y ys (z ∷ zs) end begins munch =
      let same : z ≡ y = cc begins.1 in
      subst (λ (x : Token). First t p w x) same munch.0

  module _ (marks : ℕ → Bool) (charts : Charts t marks) where
    pub longer_under : (x : List ℕ) → Word x → 0 < length x → StaysOpen t marks x → Longer t x
    longer_under x word some open_all =
        let after = subst (λ s. marks s ≡ true) (state_all x) (open_all (length x) some (omega arith)) in
        let opened = marked_open t marks charts x word after in
        record {
          ending = opened.by;
          word = opened.word;
          some = opened.some;
          accepted = record {
            some = omega (arith, length-append x opened.by);
            within = omega arith;
            accepts = subst (λ s. Accepts t s) (sym (state_all (x ++ opened.by) ∙ walk_append t 0 x opened.by)) opened.accepted;
          };
        }

    -- no token is common
    pub waits_common : (p : ℕ) (x : List ℕ) (y : Token) (ys : List Token) → Word x → StaysOpen t marks x → Common t p x (y ∷ ys) → ⊥
    waits_common p [] y ys word open_all common = begins_none y ys (common_here t p [] (y ∷ ys) [] done common (inl (refl, refl)))
    waits_common p (b ∷ u) y ys word open_all common =
        let x = b ∷ u in
        let longer = longer_under x word (omega arith) open_all in
        let e = longer.ending in
        let now = munched t p x in
        let later = munched t p (x ++ e) in
        let short = begins_first p x y ys now.tokens now.end (common_here t p x (y ∷ ys) now.tokens now.end common now.munch) now.munch in
        let long = begins_first p (x ++ e) y ys later.tokens later.end (common e longer.word later.tokens later.end later.munch) later.munch in
        omega (arith, first_within t p x y short, long.longest.most (length (x ++ e)) longer.accepted, length-append x e, longer.some)

    -- no failure is settled
    pub waits_fails : (p : ℕ) (x : List ℕ) (q : ℕ) → Word x → StaysOpen t marks x → ((e : List ℕ) → Word e → Ends t p (x ++ e) (fails q)) → ⊥
    waits_fails p [] q word open_all always =
        ⊎_elim
        (λ empty. let z : ◌≡◌ {A = ℕ} 0 1 = cc empty.1 in omega arith)
        (λ stops. omega (arith, stops.0))
        (always [] tt)
    waits_fails p (b ∷ u) q word open_all always =
        let x = b ∷ u in
        let longer = longer_under x word (omega arith) open_all in
        ⊎_elim
        (λ empty. let z : ◌≡◌ {A = ℕ} 0 1 = cc empty.0 in omega arith)
        (λ stops. stops.1 (length (x ++ longer.ending)) longer.accepted)
        (always longer.ending longer.word)
