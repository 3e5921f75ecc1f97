-- Sets of nodes.
use Rattle.std.specs.Prelude.{◌≡◌, ℕ, Bool, false, ◌&&◌, ◌||◌, ◌==◌, nat_lt, slice_index_or}
use Rattle.graphs.specs.declared.nodes.NodeSet.{NodeSet}

-- Whether a set has a node.
abbrev pub has : NodeSet → ℕ → Bool
has s k = slice_index_or s.members k false

-- It has no node.
abbrev pub Empty : NodeSet → Type 0
Empty s = (k : ℕ) → has s k ≡ false

-- It then has node n too, if a graph can have such a node, and else what it had.
abbrev pub Adds : NodeSet → ℕ → NodeSet → Type 0
Adds s n t = (k : ℕ) → has t k ≡ (has s k || (k == n && nat_lt n 128))
