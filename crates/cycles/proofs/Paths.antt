-- Paths in a graph whose nodes are all done: along each edge, the longest path from the node gets shorter.
use Rattle.std.proofs.Common.{◌≡◌, ℕ, ◌+◌, ◌<◌, ◌≤◌, List, [], ◌∷◌, ◌++◌, length, Some, None, sym, refl, ap, ◌∙◌, subst, ⊎_elim, arith}
use Rattle.std.proofs.lemmas.Bool.{cases_lt}
use Rattle.graphs.proofs.Paths.{edge_from, leads_push}
use Rattle.graphs.specs.Graph.{Edges, tells, Leads}
use Rattle.graphs.specs.Routes.{steps_of}
use Rattle.graphs.specs.declared.route.Route.{Route}
use Rattle.graphs.specs.declared.route.Step.{Step}
use Rattle.cycles.specs.declared.search.Told.{Told}
use Rattle.cycles.specs.declared.search.Mark.{Mark}
use Rattle.cycles.specs.declared.search.Mark.TheVariants.{New, Active, Done}
use Rattle.cycles.specs.Finding.{IsLongest}
use Rattle.cycles.specs.Search.{Begins, Complete, first_of, height_of, mark_of, rank}

rank_height : (m : Mark) → 0 < rank m → rank m ≡ height_of m + 1
rank_height New some = absurd (omega arith)
rank_height (Active p) some = absurd (omega arith)
rank_height (Done t) some = refl

-- a node from which the longest path is known is done
done_of : (m : Mark) → 0 < rank m → (t : Told) × (m ≡ Done t)
done_of New some = absurd (omega arith)
done_of (Active p) some = absurd (omega arith)
done_of (Done t) some = (t, refl)

module _ (g : Edges) (marks : List Mark) (h : Complete g marks) where
  -- an edge
  edge_down : (a s w : ℕ) → 0 < rank (mark_of marks a) → tells g a s ≡ Some w → (0 < rank (mark_of marks w)) × (rank (mark_of marks w) < rank (mark_of marks a))
  edge_down a s w some leads =
      let done = done_of (mark_of marks a) some in
      let known = h.known a done.0 done.1 in
      let to = known.1.each s w (omega (arith, (edge_from g a s w leads).1, known.0)) leads in
      (to.0, omega (arith, to.1, ap rank done.1))

  -- a path
  path_down : (q : List Step) (a b : ℕ) → 0 < rank (mark_of marks a) → Leads g a q b → length q + rank (mark_of marks b) ≤ rank (mark_of marks a)
  path_down [] a b some path = omega (arith, ap (λ n. rank (mark_of marks n)) path)
  path_down (x ∷ xs) a b some path =
      let first = edge_down a x.slot x.to some path.0 in
      omega (arith, first.1, path_down xs x.to b first.0 path.1)

  path_end : (q : List Step) (a b : ℕ) → 0 < rank (mark_of marks a) → Leads g a q b → 0 < rank (mark_of marks b)
  path_end [] a b some path = omega (arith, ap (λ n. rank (mark_of marks n)) path)
  path_end (x ∷ xs) a b some path = path_end xs x.to b (edge_down a x.slot x.to some path.0).0 path.1

  -- the start of a path with edges is a node
  start_inside : (q : List Step) (a b : ℕ) → 0 < length q → Leads g a q b → a < g.nodes
  start_inside [] a b some path = absurd (omega arith)
  start_inside (x ∷ xs) a b some path = (edge_from g a x.slot x.to path.0).0

  pub height_few : (v : ℕ) → v < g.nodes → height_of (mark_of marks v) < g.nodes
  height_few v inside = omega (arith, rank_height (mark_of marks v) (h.done v inside), h.low v)

  -- the first step of a longest path
  first_begins : (node : ℕ) → 0 < rank (mark_of marks node) → Begins g marks node (height_of (mark_of marks node)) (first_of (mark_of marks node))
  first_begins node some =
      let done = done_of (mark_of marks node) some in
      subst (λ m. Begins g marks node (height_of m) (first_of m)) (sym done.1) (h.known node done.0 done.1).1.begins

  -- a step along it
  pub further : (start node : ℕ) (steps : List Step) (x : Step) → Leads g start steps node → 0 < rank (mark_of marks node) → Some x ≡ first_of (mark_of marks node) → Leads g start (steps ++ x ∷ []) x.to × (0 < rank (mark_of marks x.to)) × (height_of (mark_of marks x.to) + 1 ≡ height_of (mark_of marks node))
  further start node steps x path done first =
      let begins : Begins g marks node (height_of (mark_of marks node)) (Some x) = subst (Begins g marks node (height_of (mark_of marks node))) (sym first) (first_begins node done) in
      let some : 0 < rank (mark_of marks x.to) = omega (arith, begins.0, begins.2) in
      (leads_push g start steps node x.slot x.to path begins.1, some, omega (arith, begins.2, rank_height (mark_of marks x.to) some))

  -- where it has none, there is no edge
  pub ends : (node : ℕ) → 0 < rank (mark_of marks node) → None ≡ first_of (mark_of marks node) → height_of (mark_of marks node) ≡ 0
  ends node done none = subst (Begins g marks node (height_of (mark_of marks node))) (sym none) (first_begins node done)

  -- a path of as many edges as the longest from any node has
  pub longest : (start node : ℕ) (steps : List Step) (r : Route) → start < g.nodes → ((v : ℕ) → v < g.nodes → height_of (mark_of marks v) ≤ height_of (mark_of marks start)) → Leads g start steps node → length steps ≡ height_of (mark_of marks start) → r.start ≡ start → steps_of r ≡ steps → IsLongest g r
  longest start node steps r inside tallest path all starts steps_are =
      let count : length (steps_of r) ≡ height_of (mark_of marks start) = ap length steps_are ∙ all in
      record {
        inside = omega (arith, starts, inside);
        few = omega (arith, count, height_few start inside);
        last = node;
        leads = subst (λ a. Leads g a (steps_of r) node) (sym starts) (subst (λ l. Leads g start l node) (sym steps_are) path);
        most = λ a b q leads.
            ⊎_elim
            (λ some.
            let a_inside = start_inside q a b some leads in
            let done = h.done a a_inside in
            let down = path_down q a b done leads in
            let last' = path_end q a b done leads in
            omega (arith, down, last', count, tallest a a_inside, rank_height (mark_of marks a) done))
            (λ none. omega (arith, count, none))
            (cases_lt 0 (length q));
        acyclic = λ a q some leads. omega (arith, path_down q a a (h.done a (start_inside q a a some leads)) leads);
      }
