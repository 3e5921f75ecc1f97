-- A path is written from its end to its front, back along the notes of a search.
use Rattle.std.proofs.Common.{◌≡◌, ℕ, ◌+◌, ◌<◌, ◌≤◌, Bool, true, List, ◌∷◌, length, take, drop, set, Some, Option, sym, refl, ap, ◌∙◌, subst, arith}
use Rattle.std.proofs.lemmas.List.{drop_all, drop-set, length-take-le}
use Rattle.graphs.specs.declared.arrival.Arrival.{Arrival}
use Rattle.graphs.specs.declared.route.Step.{Step}
use Rattle.graphs.specs.Arrivals.{Traced, arrival_at, arrival_steps, steps_to}
use Rattle.graphs.specs.Graph.{Edges, Leads}
use Rattle.std.proofs.Math.Seq.{take-set-lt}

module _ (xs : List (Option Arrival)) (node size : ℕ) where
  -- the steps from place k on lead from node at to the end, and k steps lead to that node
  pub record Back (g : Edges) (given : ℕ → Bool) (steps : List Step) (k at : ℕ) : Type 0 where
    pub leads : Leads g at (drop k (take size steps)) node
    pub ends : k ≡ 0 → given at ≡ true
    pub more : 0 < k → steps_to xs at ≡ k

  -- so for every graph and every given nodes that the notes lead back to
  abbrev pub Backs : List Step → ℕ → ℕ → Type 0
  Backs steps k at = (g : Edges) (given : ℕ → Bool) → Traced g given xs → Back g given steps k at

  module _ (steps : List Step) (long : length steps ≡ 128) (few : size ≤ 128) where
    pub back_none : (a : Arrival) → arrival_at xs node ≡ Some a → a.steps ≡ size → Backs steps size node
    back_none a is same g given traced = record {
      leads = subst (λ (ys : List Step). Leads g node ys node) (sym (drop_all size (take size steps) (omega (arith, length-take-le size steps (omega (arith, long, few)))))) refl;
      ends = λ none. absurd (omega (arith, (traced.back node a is).some, same, none));
      more = λ some. ap arrival_steps is ∙ same;
    }

    pub back_more : (i at : ℕ) (a : Arrival) → i < size → arrival_at xs at ≡ Some a → Backs steps (i + 1) at → Backs (set steps i (record { slot = a.slot; to = at })) i a.from
    back_more i at a inside is back g given traced =
        let was = back g given traced in
        let here = traced.back at a is in
        let steps_are : a.steps ≡ i + 1 = sym (ap arrival_steps is) ∙ was.more (omega arith) in
        record {
          leads = subst (λ (ys : List Step). Leads g a.from ys node) (sym (front_is i (record { slot = a.slot; to = at }) inside)) (here.edge, was.leads);
          ends = λ none. here.first (omega (arith, steps_are, none));
          more = λ some. omega (arith, here.later (omega (arith, steps_are, some)), steps_are);
        }
      where
        front_is : (i : ℕ) (x : Step) → i < size → drop i (take size (set steps i x)) ≡ x ∷ drop (i + 1) (take size steps)
        front_is i x inside =
            ap (drop i) (take-set-lt size steps i x inside)
            ∙ drop-set (take size steps) i x (omega (arith, inside, length-take-le size steps (omega (arith, long, few))))
