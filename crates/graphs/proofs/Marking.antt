-- A search that has nothing left to ask marks exactly what is reached.
use Rattle.std.proofs.Common.{◌≡◌, ℕ, zero, suc, ◌+◌, ◌<◌, Bool, true, List, [], ◌∷◌, ◌++◌, length, Some, Decides, Option, sym, refl, ap, ◌∙◌, subst, inl, inr, arith}
use Rattle.std.proofs.lemmas.List.{length_push}
use Rattle.graphs.specs.declared.arrival.Arrival.{Arrival}
use Rattle.graphs.specs.declared.route.Step.{Step}
use Rattle.graphs.specs.Arrivals.{Traced, arrival_at, reached_at, arrival_steps, steps_to}
use Rattle.graphs.specs.Graph.{Edges, Leads, Reaches, tells}
use Rattle.graphs.specs.Searching.{Covers, Known}
use Rattle.graphs.proofs.Growing.{some_of, steps_reached}
use Rattle.graphs.proofs.Paths.{edge_from, leads_push}

module _ (g : Edges) (given : ℕ → Bool) (xs : List (Option Arrival)) where
  -- back along the notes to a given node
  trace : Traced g given xs → (k b : ℕ) (a : Arrival) → arrival_at xs b ≡ Some a → a.steps ≡ suc k → Reaches g given b
  trace traced zero b a is one =
      let here = traced.back b a is in
      record {
        from = a.from;
        start = here.first one;
        steps = record { slot = a.slot; to = b } ∷ [];
        some = omega arith;
        leads = (here.edge, refl);
      }
  trace traced (suc k) b a is more =
      let here = traced.back b a is in
      let before : steps_to xs a.from + 1 ≡ a.steps = here.later (omega (arith, more)) in
      let found = some_of (arrival_at xs a.from) (steps_reached (arrival_at xs a.from) (omega (arith, before, more))) in
      let less : found.0.steps ≡ suc k = sym (ap arrival_steps found.1) ∙ omega (arith, before, more) in
      let front = trace traced k a.from found.0 found.1 less in
      record {
        from = front.from;
        start = front.start;
        steps = front.steps ++ record { slot = a.slot; to = b } ∷ [];
        some = omega (arith, length_push front.steps (record { slot = a.slot; to = b }));
        leads = leads_push g front.from front.steps a.from a.slot b front.leads here.edge;
      }

  pub marked_reaches : Traced g given xs → (b : ℕ) → reached_at xs b ≡ true → Reaches g given b
  marked_reaches traced b there =
      let found = some_of (arrival_at xs b) there in
      from_steps found.0 found.1 found.0.steps refl
    where
      from_steps : (a : Arrival) → arrival_at xs b ≡ Some a → (n : ℕ) → a.steps ≡ n → Reaches g given b
      from_steps a is zero none = absurd (omega (arith, (traced.back b a is).some, none))
      from_steps a is (suc k) some = trace traced k b a is some

  -- every node that is given or reached has its neighbours marked
  module _ (all : (a : ℕ) → a < g.nodes → Known given xs a → Covers g a g.slots xs) where
    step : (x : Step) (a : ℕ) → Known given xs a → tells g a x.slot ≡ Some x.to → reached_at xs x.to ≡ true
    step x a known edge = let at = edge_from g a x.slot x.to edge in all a at.0 known x.slot x.to at.1 edge

    along : (steps : List Step) (a b : ℕ) → Known given xs a → 0 < length steps → Leads g a steps b → reached_at xs b ≡ true
    along [] a b known some leads = absurd (omega arith)
    along (x ∷ []) a b known some leads = subst (λ n. reached_at xs n ≡ true) leads.1 (step x a known leads.0)
    along (x ∷ y ∷ steps) a b known some leads = along (y ∷ steps) x.to b (inr (step x a known leads.0)) (omega arith) leads.1

    pub marks_right : Traced g given xs → (b : ℕ) → Decides (reached_at xs b) (Reaches g given b)
    marks_right traced b = (marked_reaches traced b, λ r. along r.steps r.from b (inl r.start) r.some r.leads)
