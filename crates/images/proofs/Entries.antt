-- Where the entries of an image stand: no two at one place, and none inside another.
use Rattle.std.proofs.Common.{◌≡◌, ℕ, ◌+◌, ◌<◌, ◌≤◌, cond, ltb, List, [], ◌∷◌, get_or, sym, refl, ap, ◌∙◌, subst, ⊎_elim, arith}
use Rattle.std.proofs.lemmas.Bool.Decides.{nat_tests}
use Rattle.std.proofs.lemmas.Bool.{cases_lt}
use Rattle.images.specs.Image.{Entry, class_count, class, state_count, label, step_count, step, end, labels_end, steps_end, Stands, size, InOrder, OrderlyBefore}

abbrev rank : Entry → ℕ
rank class_count = 0
rank class = 1
rank state_count = 2
rank label = 3
rank step_count = 4
rank step = 5
rank end = 6

abbrev entries : List Entry
entries = class_count ∷ class ∷ state_count ∷ label ∷ step_count ∷ step ∷ end ∷ []

back : (e : Entry) → get_or entries (rank e) end ≡ e
back class_count = refl
back class = refl
back state_count = refl
back label = refl
back step_count = refl
back step = refl
back end = refl

module _ (image : List ℕ) where
  -- the places that entries of a kind take up
  abbrev Run : Entry → ℕ → Type 0
  Run class_count p = p < 2
  Run class p = (2 ≤ p) × (p < 258)
  Run state_count p = (258 ≤ p) × (p < 260)
  Run label p = (260 ≤ p) × (p < labels_end image)
  Run step_count p = (labels_end image ≤ p) × (p < labels_end image + 2)
  Run step p = (labels_end image + 2 ≤ p) × (p < steps_end image)
  Run end p = steps_end image ≤ p

  abbrev rank_at : ℕ → ℕ
  rank_at p =
      cond (ltb p 2) 0
      (cond (ltb p 258) 1
      (cond (ltb p 260) 2
      (cond (ltb p (labels_end image)) 3
      (cond (ltb p (labels_end image + 2)) 4
      (cond (ltb p (steps_end image)) 5 6)))))

  run_rank : (e : Entry) (p : ℕ) → Run e p → rank_at p ≡ rank e
  run_rank class_count p h = grind (arith, nat_tests)
  run_rank class p h = grind (arith, nat_tests)
  run_rank state_count p h = grind (arith, nat_tests)
  run_rank label p h = grind (arith, nat_tests)
  run_rank step_count p h = grind (arith, nat_tests)
  run_rank step p h = grind (arith, nat_tests)
  run_rank end p h = grind (arith, nat_tests)

  same_kind : (e f : Entry) (p : ℕ) → Run e p → Run f p → e ≡ f
  same_kind e f p h k =
      sym (back e) ∙ ap (λ n. get_or entries n end) (sym (run_rank e p h) ∙ run_rank f p k) ∙ back f

  stands_run : (e : Entry) (p : ℕ) → Stands image e p → Run e p
  stands_run class_count p h = omega arith
  stands_run class p h = h
  stands_run state_count p h = (omega arith, omega arith)
  stands_run label p h = h
  stands_run step_count p h = (omega arith, omega arith)
  stands_run step p h = h
  stands_run end p h = omega arith

  inside_run : (e : Entry) (p q : ℕ) → Stands image e p → p ≤ q → q < p + size e → Run e q
  inside_run class_count p q h low high = omega arith
  inside_run class p q h low high = (omega arith, omega arith)
  inside_run state_count p q h low high = (omega arith, omega arith)
  inside_run label p q h low high = (omega arith, omega arith)
  inside_run step_count p q h low high = (omega arith, omega arith)
  inside_run step p q h low high = (omega arith, omega arith)
  inside_run end p q h low high = omega arith

  same_place : (e : Entry) (p q : ℕ) → Stands image e p → Stands image e q → p ≤ q → q < p + size e → p ≡ q
  same_place class_count p q h k low high = omega arith
  same_place class p q h k low high = omega arith
  same_place state_count p q h k low high = omega arith
  same_place label p q h k low high = omega arith
  same_place step_count p q h k low high = omega arith
  same_place step p q h k low high = omega arith
  same_place end p q h k low high = omega arith

  -- one entry to a place
  pub same_entry : (e f : Entry) (p : ℕ) → Stands image e p → Stands image f p → e ≡ f
  same_entry e f p h k = same_kind e f p (stands_run e p h) (stands_run f p k)

  pub orderly_none : OrderlyBefore image 0
  orderly_none e q h below = absurd (omega arith)

  -- what is in order goes on to the end of an entry that is
  pub orderly_more : (e : Entry) (p : ℕ) → Stands image e p → OrderlyBefore image p → InOrder image e p → OrderlyBefore image (p + size e)
  orderly_more e p h before here f q k below = ⊎_elim (before f q k) at_or_past (cases_lt q p)
    where
      at_or_past : p ≤ q → InOrder image f q
      at_or_past low =
          let kind = same_kind e f q (inside_run e p q h low below) (stands_run f q k) in
          let place = same_place e p q h (subst (λ g. Stands image g q) (sym kind) k) low below in
          subst (λ g. InOrder image g q) kind (subst (InOrder image e) place here)
