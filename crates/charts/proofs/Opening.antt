-- A state is open exactly if it is reached from the accepting states in the backward graph.
use Rattle.std.proofs.Common.{◌≡◌, ℕ, ◌+◌, ◌*◌, ◌/◌, ◌%◌, ◌<◌, Bool, not, ◌&&◌, eqb, ltb, List, [], ◌∷◌, ◌++◌, length, Some, None, Decides, Option, sym, refl, ap, ◌∙◌, subst, ⊎_elim, arith}
use Rattle.std.proofs.lemmas.List.{length_push}
use Rattle.std.proofs.lemmas.Bool.{and_from, and_parts, both_ways, cases_Bool, cond-false, cond-true, eq-eqb, eqb-true, lt-ltb, ne_eqb, not_from_false, not-true}
use Rattle.graphs.specs.Graph.{Leads, Reaches, tells}
use Rattle.graphs.specs.declared.route.Step.{Step}
use Rattle.graphs.proofs.Paths.{edge_from, leads_push}
use Rattle.tables.proofs.Walking.{walk_append, walk_inside, word_append}
use Rattle.tables.specs.Openness.{Open, TellsRightly, Word, walk}
use Rattle.tables.specs.Table.{Sound, Table}
use Rattle.charts.specs.Accepting.{accepts}
use Rattle.charts.specs.Slots.{backward, byte_of, state_of}

same_state : (a b : ℕ) → ◌≡◌ {A = Option ℕ} (Some a) (Some b) → a ≡ b
same_state a b e = cc

never : (o : Option ℕ) (b : ℕ) → o ≡ None → o ≡ Some b → ⊥
never o b none some = let z : ◌≡◌ {A = ℕ} 0 1 = cc in omega arith

-- the word along a path that goes backward, from its end to its start
abbrev word_back : List Step → List ℕ
word_back [] = []
word_back (x ∷ xs) = word_back xs ++ byte_of x.slot ∷ []

module _ (t : Table) where
  -- an edge of the backward graph goes against a step
  edge_back : (q slot p : ℕ) → tells (backward t) q slot ≡ Some p → (state_of slot ≡ p) × (t.next p (byte_of slot) ≡ q)
  edge_back q slot p is =
      let at = edge_from (backward t) q slot p is in
      let inner : (backward t).neighbour q slot ≡ Some p = sym (cond-true (ltb q t.states && ltb slot (256 * t.states)) ((backward t).neighbour q slot) None (and_from _ _ (lt-ltb _ _ at.0) (lt-ltb _ _ at.1))) ∙ is in
      ⊎_elim
      (λ yes.
      let to = same_state (state_of slot) p (sym (cond-true (eqb (t.next (state_of slot) (byte_of slot)) q) (Some (state_of slot)) None yes) ∙ inner) in
      (to, subst (λ n. t.next n (byte_of slot) ≡ q) to (eqb-true _ _ yes)))
      (λ none. absurd (never _ p (cond-false (eqb (t.next (state_of slot) (byte_of slot)) q) (Some (state_of slot)) None none) inner))
      (cases_Bool (eqb (t.next (state_of slot) (byte_of slot)) q))

  -- a step, backward
  back_edge : (p b : ℕ) → p < t.states → b < 256 → t.next p b < t.states → tells (backward t) (t.next p b) (256 * p + b) ≡ Some p
  back_edge p b inside byte to_inside =
      let state : (256 * p + b) / 256 ≡ p = omega (arith, byte) in
      let low : (256 * p + b) % 256 ≡ b = omega (arith, byte) in
      let same : t.next (state_of (256 * p + b)) (byte_of (256 * p + b)) ≡ t.next p b = ap (λ s. t.next s (byte_of (256 * p + b))) state ∙ ap (λ c. t.next p c) low in
      let q = t.next p b in
      cond-true (ltb q t.states && ltb (256 * p + b) (256 * t.states)) ((backward t).neighbour q (256 * p + b)) None (and_from _ _ (lt-ltb _ _ to_inside) (lt-ltb _ _ (omega (arith, inside, byte))))
      ∙ cond-true (eqb (t.next (state_of (256 * p + b)) (byte_of (256 * p + b))) q) (Some (state_of (256 * p + b))) None (eq-eqb _ _ same)
      ∙ ap Some state

  -- the word along a backward path leads from its end to its start
  walk_back : (a : ℕ) (steps : List Step) (s : ℕ) → Leads (backward t) a steps s → walk t s (word_back steps) ≡ a
  walk_back a [] s leads = sym leads
  walk_back a (x ∷ steps) s leads =
      walk_append t s (word_back steps) (byte_of x.slot ∷ [])
      ∙ ap (λ n. t.next n (byte_of x.slot)) (walk_back x.to steps s leads.1)
      ∙ (edge_back a x.slot x.to leads.0).1

  word_back_is_a_word : (steps : List Step) → Word (word_back steps)
  word_back_is_a_word [] = tt
  word_back_is_a_word (x ∷ steps) = word_append (word_back steps) (byte_of x.slot ∷ []) (word_back_is_a_word steps) (omega arith, tt)

  length_back : (steps : List Step) → length (word_back steps) ≡ length steps
  length_back [] = refl
  length_back (x ∷ steps) = length_push (word_back steps) (byte_of x.slot) ∙ omega (arith, length_back steps)

  pub reaches_open : (s : ℕ) → Reaches (backward t) (accepts t) s → Open t s
  reaches_open s r = record {
    by = word_back r.steps;
    word = word_back_is_a_word r.steps;
    some = omega (arith, length_back r.steps, r.some);
    accepted = λ none.
        both_ways _ (not-true _ (and_parts (ltb r.from t.states) (not (eqb (t.label r.from) 0)) r.start).1)
        (eq-eqb _ _ (subst (λ n. t.label n ≡ 0) (walk_back r.from r.steps s r.leads) none));
  }

  -- equal sets reach the same
  reaches_from : (given other : ℕ → Bool) → ((s : ℕ) → given s ≡ other s) → (s : ℕ) → Reaches (backward t) given s → Reaches (backward t) other s
  reaches_from given other same s r = record { from = r.from; start = sym (same r.from) ∙ r.start; steps = r.steps; some = r.some; leads = r.leads }

  module _ (sound : Sound t) where
    -- a path back along a word
    back_along : (s : ℕ) (w : List ℕ) → s < t.states → Word w → (steps : List Step) × Leads (backward t) (walk t s w) steps s × (length steps ≡ length w)
    back_along s [] inside word = ([], refl, refl)
    back_along s (b ∷ w) inside word =
        let to_inside = sound.inside s b inside word.0 in
        let rest = back_along (t.next s b) w to_inside word.1 in
        let last : Step = record { slot = 256 * s + b; to = s } in (
          rest.0 ++ last ∷ [],
          leads_push (backward t) (walk t (t.next s b) w) rest.0 (t.next s b) (256 * s + b) s rest.1 (back_edge s b inside word.0 to_inside),
          length_push rest.0 last ∙ omega (arith, rest.2),
        )

    pub open_reaches : (s : ℕ) → s < t.states → Open t s → Reaches (backward t) (accepts t) s
    open_reaches s inside o =
        let back = back_along s o.by inside o.word in
        record {
          from = walk t s o.by;
          start = and_from _ _ (lt-ltb _ _ (walk_inside t sound s o.by inside o.word)) (not_from_false _ (ne_eqb _ _ o.accepted));
          steps = back.0;
          some = omega (arith, back.2, o.some);
          leads = back.1;
        }

    -- marks of what is reached from the accepting states tell rightly
    pub marks_tell : (given marks : ℕ → Bool) → ((s : ℕ) → given s ≡ accepts t s) → ((s : ℕ) → Decides (marks s) (Reaches (backward t) given s)) → TellsRightly t marks
    marks_tell given marks same found s inside = (
      λ told. reaches_open s (reaches_from given (accepts t) same s ((found s).0 told)),
      λ o. (found s).1 (reaches_from (accepts t) given (λ k. sym (same k)) s (open_reaches s inside o)),
    )
