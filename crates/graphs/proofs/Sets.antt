-- Sets of nodes: what a set has to which a node was added.
use Rattle.std.proofs.Common.{◌≡◌, ℕ, ◌<◌, Bool, true, false, ◌&&◌, ◌||◌, ◌≢◌, eqb, ltb, refl, ◌∙◌}
use Rattle.std.proofs.lemmas.Bool.{and_from, and_left, eq-eqb, lt-ltb, ne_eqb, or_right}
use Rattle.graphs.specs.declared.nodes.NodeSet.{NodeSet}
use Rattle.graphs.specs.Nodes.{Adds, has}

or_false : (b c : Bool) → c ≡ false → (b || c) ≡ b
or_false true c none = refl
or_false false c none = none

module _ (s : NodeSet) (n : ℕ) (t : NodeSet) (adds : Adds s n t) where
  pub added : n < 128 → has t n ≡ true
  added few = adds n ∙ or_right (has s n) (eqb n n && ltb n 128) (and_from (eqb n n) (ltb n 128) (eq-eqb n n refl) (lt-ltb n 128 few))

  pub kept : (k : ℕ) → k ≢ n → has t k ≡ has s k
  kept k ne = adds k ∙ or_false (has s k) (eqb k n && ltb n 128) (and_left (eqb k n) (ltb n 128) (ne_eqb k n ne))
