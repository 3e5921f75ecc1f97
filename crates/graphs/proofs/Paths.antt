-- Paths: one after another, and where their steps can be.
use Rattle.std.proofs.Common.{◌≡◌, ℕ, ◌<◌, ◌&&◌, ltb, List, [], ◌∷◌, ◌++◌, Some, None, Option, sym, refl, subst, ⊎_elim, arith}
use Rattle.std.proofs.lemmas.Bool.{and_parts, cases_Bool, cond-false, ltb-true}
use Rattle.graphs.specs.declared.route.Step.{Step}
use Rattle.graphs.specs.Graph.{Edges, Leads, tells}

module _ (g : Edges) where
  -- a path and then another
  pub leads_append : (a : ℕ) (xs ys : List Step) (b c : ℕ) → Leads g a xs b → Leads g b ys c → Leads g a (xs ++ ys) c
  leads_append a [] ys b c first second = subst (λ n. Leads g n ys c) (sym first) second
  leads_append a (x ∷ xs) ys b c first second = (first.0, leads_append x.to xs ys b c first.1 second)

  -- a path and then one edge
  pub leads_push : (a : ℕ) (xs : List Step) (b s c : ℕ) → Leads g a xs b → tells g b s ≡ Some c → Leads g a (xs ++ record { slot = s; to = c } ∷ []) c
  leads_push a xs b s c first edge = leads_append a xs (record { slot = s; to = c } ∷ []) b c first (edge, refl)

  never : (o : Option ℕ) (b : ℕ) → o ≡ None → o ≡ Some b → ⊥
  never o b none some = let z : ◌≡◌ {A = ℕ} 0 1 = cc in omega arith

  -- an edge begins at a node, and at one of its slots
  pub edge_from : (a s b : ℕ) → tells g a s ≡ Some b → (a < g.nodes) × (s < g.slots)
  edge_from a s b is =
      ⊎_elim
      (λ yes. let both = and_parts (ltb a g.nodes) (ltb s g.slots) yes in (ltb-true a g.nodes both.0, ltb-true s g.slots both.1))
      (λ none. absurd (never (tells g a s) b (cond-false (ltb a g.nodes && ltb s g.slots) (g.neighbour a s) None none) is))
      (cases_Bool (ltb a g.nodes && ltb s g.slots))
