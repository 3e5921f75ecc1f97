-- What a graph means, and its paths.
use Rattle.std.specs.Prelude.{◌≡◌, ℕ, ◌<◌, Bool, true, cond, ◌&&◌, List, [], ◌∷◌, length, IfSome, Some, None, Option, nat_lt}
use Rattle.graphs.specs.declared.route.Step.{Step}

-- A graph: its nodes and the slots of each node are numbered from 0, and a slot leads to a neighbour or nowhere.
pub record Edges : Type 0 where
  pub nodes : ℕ
  pub slots : ℕ
  pub neighbour : ℕ → ℕ → Option ℕ

-- Where a slot of a node leads: nowhere, if there is no such node or slot.
abbrev pub tells : Edges → ℕ → ℕ → Option ℕ
tells g a s = cond (nat_lt a g.nodes && nat_lt s g.slots) (g.neighbour a s) None

-- A neighbour is a node.
abbrev pub Inside : Edges → Option ℕ → Type 0
Inside g r = IfSome r (λ to. to < g.nodes)

-- A path: from node a, by these steps, one after another, to node b. Each step is an edge.
abbrev pub Leads : Edges → ℕ → List Step → ℕ → Type 0
Leads g a [] b = a ≡ b
Leads g a (x ∷ xs) b = (tells g a x.slot ≡ Some x.to) × Leads g x.to xs b

-- A node is reached from given nodes: it is at the end of a path of one or more edges from one of them.
pub record Reaches (g : Edges) (given : ℕ → Bool) (b : ℕ) : Type 0 where
  pub from : ℕ
  pub start : given from ≡ true
  pub steps : List Step
  pub some : 0 < length steps
  pub leads : Leads g from steps b
