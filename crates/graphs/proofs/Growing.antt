-- A search grows: the slots of a node are asked one after another, and a new neighbour is noted.
use Rattle.std.proofs.Common.{◌≡◌, ℕ, ◌+◌, ◌<◌, ◌≤◌, Bool, true, false, cond, ◌≢◌, List, length, get_or, take, set, replicate, is_some, Some, None, count_by, Option, sym, refl, ap, ◌∙◌, subst, inl, inr, ⊎_elim, arith}
use Rattle.std.proofs.lemmas.List.{get_or-set_same, get_or-set_other, get_or-take, length-take}
use Rattle.std.proofs.lemmas.List.Sums.{sum_by-set, count_by-le-length}
use Rattle.std.proofs.lemmas.Bool.{cases_eq, cases_Bool, both_ways, cond_both, cond-true, cond-false}
use Rattle.graphs.specs.declared.arrival.Arrival.{Arrival}
use Rattle.graphs.specs.Arrivals.{Arrived, arrival_at, noted, reached_at, arrival_steps, steps_to}
use Rattle.graphs.specs.Graph.{Edges, tells}
use Rattle.graphs.specs.Searching.{Covers, Grown, Keeps, Known}
use Rattle.graphs.proofs.Lists.{everywhere}
use Rattle.std.proofs.Math.Seq.{take-set-lt}

-- a node that takes steps is reached
pub steps_reached : (o : Option Arrival) → 1 ≤ arrival_steps o → is_some o ≡ true
steps_reached None h = absurd (omega arith)
steps_reached (Some a) h = refl

pub some_of : (o : Option Arrival) → is_some o ≡ true → (a : Arrival) × (o ≡ Some a)
some_of None h = absurd (both_ways false refl h)
some_of (Some a) h = (a, refl)

same_arrival : (a b : Arrival) → ◌≡◌ {A = Option Arrival} (Some a) (Some b) → a ≡ b
same_arrival a b e = cc

same_node : (a b : ℕ) → ◌≡◌ {A = Option ℕ} (Some a) (Some b) → a ≡ b
same_node a b e = cc

module _ (g : Edges) (given : ℕ → Bool) where
  -- the steps that lead to a node whose slots are asked: none to a given one
  abbrev pub depth : List (Option Arrival) → ℕ → ℕ
  depth xs u = cond (given u) 0 (steps_to xs u)

  -- the notes with a new neighbour of u
  abbrev pub with_new : List (Option Arrival) → ℕ → ℕ → ℕ → List (Option Arrival)
  with_new xs u slot v = set xs v (Some (record { from = u; slot = slot; steps = depth xs u + 1 }))

  -- a reached node takes a step at least
  reached_steps : (xs : List (Option Arrival)) (k : ℕ) → Grown g given xs → reached_at xs k ≡ true → 1 ≤ steps_to xs k
  reached_steps xs k grown there =
      let found = some_of (arrival_at xs k) there in
      subst (λ (o : Option Arrival). 1 ≤ arrival_steps o) (sym found.1) (grown.traced.back k found.0 found.1).some

  counted_few : (xs : List (Option Arrival)) → count_by is_some (take g.nodes xs) ≤ g.nodes
  counted_few xs = omega (arith, count_by-le-length is_some (take g.nodes xs), length-take g.nodes xs)

  module _ (xs : List (Option Arrival)) (u slot v : ℕ) (long : length xs ≡ 128) (few : g.nodes ≤ 128) (grown : Grown g given xs)
      (known : Known given xs u) (edge : tells g u slot ≡ Some v) (inside : v < g.nodes) (new : reached_at xs v ≡ false) where
    steps : ℕ
    steps = depth xs u

    newly : Arrival
    newly = record { from = u; slot = slot; steps = steps + 1 }

    abbrev after : List (Option Arrival)
    after = set xs v (Some newly)

    at_new : arrival_at after v ≡ Some newly
    at_new = get_or-set_same xs v (Some newly) None (omega (arith, long))

    at_old : (k : ℕ) → k ≢ v → arrival_at after k ≡ arrival_at xs k
    at_old k ne = get_or-set_other xs v k (Some newly) None ne

    -- what was reached is not the new node
    not_new : (k : ℕ) → reached_at xs k ≡ true → k ≢ v
    not_new k there same = both_ways (reached_at xs v) new (subst (λ n. reached_at xs n ≡ true) same there)

    stays : (k : ℕ) → reached_at xs k ≡ true → arrival_at after k ≡ arrival_at xs k
    stays k there = at_old k (not_new k there)

    one_more : count_by is_some (take g.nodes after) ≡ count_by is_some (take g.nodes xs) + 1
    one_more =
        let count : Option Arrival → ℕ = λ o. cond (is_some o) 1 0 in
        let front = take g.nodes xs in
        let sum = sum_by-set count front v (Some newly) None (omega (arith, length-take g.nodes xs, long)) in
        let was : count (get_or front v None) ≡ 0 = ap count (get_or-take g.nodes xs v None inside) ∙ cond-false _ 1 0 new in
        ap (count_by is_some) (take-set-lt g.nodes xs v (Some newly) inside) ∙ omega (arith, sum, was)

    steps_few : steps ≤ count_by is_some (take g.nodes xs)
    unfolding steps
    steps_few = ⊎_elim (λ yes. omega (arith, cond-true (given u) 0 (steps_to xs u) yes)) (λ none. omega (arith, cond-false (given u) 0 (steps_to xs u) none, grown.counted u)) (cases_Bool (given u))

    new_arrived : Arrived g given after v newly
    unfolding steps newly
    new_arrived = record {
      edge = edge;
      some = omega arith;
      first = λ one. ⊎_elim (λ yes. yes) (λ none. absurd (not_zero none (omega (arith, one)))) (cases_Bool (given u));
      later = λ more. ⊎_elim (λ yes. absurd (omega (arith, more, cond-true (given u) 0 (steps_to xs u) yes))) (λ none. same none) (cases_Bool (given u));
    }
      where
        there : given u ≡ false → reached_at xs u ≡ true
        there none = ⊎_elim (λ yes. absurd (both_ways (given u) none yes)) (λ yes. yes) known

        not_zero : given u ≡ false → depth xs u ≡ 0 → ⊥
        not_zero none zero = omega (arith, reached_steps xs u grown (there none), cond-false (given u) 0 (steps_to xs u) none, zero)

        same : given u ≡ false → steps_to after u + 1 ≡ depth xs u + 1
        same none = ap (λ n. n + 1) (ap arrival_steps (stays u (there none)) ∙ sym (cond-false (given u) 0 (steps_to xs u) none))

    old_arrived : (b : ℕ) (a : Arrival) → Arrived g given xs b a → Arrived g given after b a
    old_arrived b a was = record {
      edge = was.edge;
      some = was.some;
      first = was.first;
      later = λ more.
          let before = was.later more in
          ap (λ n. n + 1) (ap arrival_steps (stays a.from (steps_reached (arrival_at xs a.from) (omega (arith, before, more))))) ∙ before;
    }

    abbrev each : (P : ℕ → Type 0) → P v → ((k : ℕ) → k ≢ v → P k) → (k : ℕ) → P k
    each P here others k = ⊎_elim (λ same. subst P (sym same) here) (λ ne. others k ne) (cases_eq k v)

    counted_after : (k : ℕ) → steps_to after k ≤ count_by is_some (take g.nodes after)
    unfolding steps newly
    counted_after =
        each (λ k. steps_to after k ≤ count_by is_some (take g.nodes after))
        (omega (arith, ap arrival_steps at_new, one_more, steps_few))
        (λ k ne. omega (arith, ap arrival_steps (at_old k ne), one_more, grown.counted k))

    pub grown_new : Grown g given (with_new xs u slot v)
    unfolding steps newly
    grown_new = record {
      traced = record {
        back = each (λ b. (a : Arrival) → arrival_at after b ≡ Some a → Arrived g given after b a)
            (λ a is. subst (λ (n : Arrival). Arrived g given after v n) (same_arrival newly a (sym at_new ∙ is)) new_arrived)
            (λ b ne a is. old_arrived b a (grown.traced.back b a (sym (at_old b ne) ∙ is)));
        few = λ b. omega (arith, counted_after b, counted_few after);
      };
      inside = each (λ k. reached_at after k ≡ true → k < g.nodes) (λ _. inside) (λ k ne there. grown.inside k (sym (ap is_some (at_old k ne)) ∙ there));
      counted = counted_after;
    }

    pub keeps_new : Keeps xs (with_new xs u slot v)
    unfolding steps newly
    keeps_new = stays

    pub reached_new : reached_at (with_new xs u slot v) v ≡ true
    unfolding steps newly
    reached_new = ap is_some at_new

    pub few_new : depth xs u + 1 ≤ g.nodes
    unfolding steps newly
    few_new = omega (arith, counted_after v, ap arrival_steps at_new, counted_few after)

  -- the first n slots of node u were asked
  pub record Grows (u n steps : ℕ) (before xs : List (Option Arrival)) : Type 0 where
    pub grown : Grown g given xs
    pub keeps : Keeps before xs
    pub covers : Covers g u n xs
    pub known : Known given xs u
    pub steps_are : steps ≡ depth xs u

  kept_reached : (before xs : List (Option Arrival)) → Keeps before xs → (k : ℕ) → reached_at before k ≡ true → reached_at xs k ≡ true
  kept_reached before xs keeps k there = ap is_some (keeps k there) ∙ there

  pub keeps_trans : (xs ys zs : List (Option Arrival)) → Keeps xs ys → Keeps ys zs → Keeps xs zs
  keeps_trans xs ys zs first second k there = second k (kept_reached xs ys first k there) ∙ first k there

  -- one slot more
  covers_more : (u n : ℕ) (xs : List (Option Arrival)) → Covers g u n xs → ((b : ℕ) → tells g u n ≡ Some b → reached_at xs b ≡ true) → Covers g u (n + 1) xs
  covers_more u n xs covers here s b less is =
      ⊎_elim
      (λ same. here b (subst (λ m. tells g u m ≡ Some b) same is))
      (λ ne. covers s b (omega (arith, ne)) is)
      (cases_eq s n)

  pub covers_kept : (u n : ℕ) (xs ys : List (Option Arrival)) → Keeps xs ys → Covers g u n xs → Covers g u n ys
  covers_kept u n xs ys keeps covers s b less is = kept_reached xs ys keeps b (covers s b less is)

  -- the slot leads nowhere, or to a node that is reached
  pub grows_old : (u n steps : ℕ) (before xs : List (Option Arrival)) → Grows u n steps before xs → ((b : ℕ) → tells g u n ≡ Some b → reached_at xs b ≡ true) → Grows u (n + 1) steps before xs
  grows_old u n steps before xs grows here = record {
    grown = grows.grown;
    keeps = grows.keeps;
    covers = covers_more u n xs grows.covers here;
    known = grows.known;
    steps_are = grows.steps_are;
  }

  same_depth : (xs ys : List (Option Arrival)) (u : ℕ) → Keeps xs ys → Known given xs u → depth ys u ≡ depth xs u
  same_depth xs ys u keeps known =
      ⊎_elim
      (λ yes. cond-true (given u) 0 (steps_to ys u) yes ∙ sym (cond-true (given u) 0 (steps_to xs u) yes))
      (λ there. ap (λ (o : Option Arrival). cond (given u) 0 (arrival_steps o)) (keeps u there))
      known

  known_kept : (xs ys : List (Option Arrival)) (u : ℕ) → Keeps xs ys → Known given xs u → Known given ys u
  known_kept xs ys u keeps known = ⊎_elim inl (λ there. inr (kept_reached xs ys keeps u there)) known

  -- the slot leads to a node that is new
  pub grows_new : (u n steps v : ℕ) (before xs : List (Option Arrival)) → length xs ≡ 128 → g.nodes ≤ 128 → Grows u n steps before xs → tells g u n ≡ Some v → v < g.nodes → reached_at xs v ≡ false → Grows u (n + 1) steps before (set xs v (Some (record { from = u; slot = n; steps = steps + 1 })))
  grows_new u n steps v before xs long few grows edge inside new =
      subst (λ (m : ℕ). Grows u (n + 1) steps before (set xs v (Some (record { from = u; slot = n; steps = m + 1 })))) (sym grows.steps_are)
      (record {
        grown = grown_new xs u n v long few grows.grown grows.known edge inside new;
        keeps = keeps_trans before xs (with_new xs u n v) grows.keeps keeps;
        covers = covers_more u n (with_new xs u n v) (covers_kept u n xs (with_new xs u n v) keeps grows.covers) (λ b is. subst (λ m. reached_at (with_new xs u n v) m ≡ true) (same_node v b (sym edge ∙ is)) (reached_new xs u n v long few grows.grown grows.known edge inside new));
        known = known_kept xs (with_new xs u n v) u keeps grows.known;
        steps_are = grows.steps_are ∙ sym (same_depth xs (with_new xs u n v) u keeps grows.known);
      })
    where
      keeps : Keeps xs (with_new xs u n v)
      keeps = keeps_new xs u n v long few grows.grown grows.known edge inside new

  pub grows_few : (u n steps v : ℕ) (before xs : List (Option Arrival)) → length xs ≡ 128 → g.nodes ≤ 128 → Grows u n steps before xs → tells g u n ≡ Some v → v < g.nodes → reached_at xs v ≡ false → steps + 1 ≤ g.nodes
  grows_few u n steps v before xs long few grows edge inside new =
      omega (arith, grows.steps_are, few_new xs u n v long few grows.grown grows.known edge inside new)

  -- the slot leads to a node, which is noted if it is new
  pub grows_to : (u n steps v : ℕ) (before xs : List (Option Arrival)) → length xs ≡ 128 → g.nodes ≤ 128 → Grows u n steps before xs → tells g u n ≡ Some v → v < g.nodes → Grows u (n + 1) steps before (noted xs v (record { from = u; slot = n; steps = steps + 1 }))
  grows_to u n steps v before xs long few grows edge inside =
      cond_both (reached_at xs v) xs (set xs v (Some (record { from = u; slot = n; steps = steps + 1 }))) (λ (ys : List (Option Arrival)). Grows u (n + 1) steps before ys)
      (λ there. grows_old u n steps before xs grows (λ b is. subst (λ m. reached_at xs m ≡ true) (same_node v b (sym edge ∙ is)) there))
      (λ new. grows_new u n steps v before xs long few grows edge inside new)

-- nothing is noted yet
none_at : (k : ℕ) → arrival_at (replicate 128 None) k ≡ None
none_at k = everywhere 128 None k

pub none_steps : (k : ℕ) → steps_to (replicate 128 None) k ≡ 0
none_steps k = ap arrival_steps (none_at k)

not_some : (o : Option Arrival) (a : Arrival) → o ≡ None → o ≡ Some a → ⊥
not_some o a none some = let z : ◌≡◌ {A = ℕ} 0 1 = cc in omega arith

pub grown_none : (g : Edges) (given : ℕ → Bool) → Grown g given (replicate 128 None)
grown_none g given = record {
  traced = record { back = λ b a is. absurd (not_some (arrival_at (replicate 128 None) b) a (none_at b) is); few = λ b. omega (arith, none_steps b) };
  inside = λ k there. absurd (both_ways (reached_at (replicate 128 None) k) (ap is_some (none_at k)) there);
  counted = λ k. omega (arith, none_steps k);
}
