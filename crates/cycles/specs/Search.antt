-- What the notes of the search say of the graph, and what its steps change.
use Rattle.std.specs.Prelude.{◌≡◌, ℕ, ◌+◌, ◌<◌, ◌≤◌, Bool, true, false, cond, List, [], ◌∷◌, ◌++◌, map, length, get_or, take, drop, replicate, Some, None, Option, count_by, nat_lt, slice_index_or, slice_set}
use Rattle.graphs.specs.Graph.{Edges, tells}
use Rattle.graphs.specs.declared.route.Step.{Step}
use Rattle.cycles.specs.declared.search.Told.{Told}
use Rattle.cycles.specs.declared.search.Mark.{Mark}
use Rattle.cycles.specs.declared.search.Mark.TheVariants.{New, Active, Done}
use Rattle.cycles.specs.declared.search.Followed.{Followed}
use Rattle.cycles.specs.declared.search.Search.{Search}
use Rattle.cycles.specs.declared.finder.Next.{Next}
use Rattle.cycles.specs.declared.finder.Next.TheVariants.{Nowhere, On, Back}

-- What is told by no slot.
abbrev pub unasked : Told
unasked = record { slot = 0; height = 0; first = None }

-- What is told with the next slot too: if it leads nowhere, and if it leads to a node from which the longest path
-- has h edges.
abbrev pub skipped : Told → Told
skipped t = record { slot = t.slot + 1; height = t.height; first = t.first }

abbrev pub raised : Told → ℕ → ℕ → Told
raised t to h =
    cond (nat_lt h t.height) (skipped t)
    (record { slot = t.slot + 1; height = h + 1; first = Some (record { slot = t.slot; to = to }) })

abbrev pub is_new : Mark → Bool
is_new New = true
is_new (Active p) = false
is_new (Done t) = false

abbrev pub is_done : Mark → Bool
is_done New = false
is_done (Active p) = false
is_done (Done t) = true

-- What the slots of a node told that is done; how many edges the longest path from there has, else 0; and the step that
-- begins one.
abbrev pub known_of : Mark → Option Told
known_of New = None
known_of (Active p) = None
known_of (Done t) = Some t

abbrev pub height_of : Mark → ℕ
height_of New = 0
height_of (Active p) = 0
height_of (Done t) = t.height

abbrev pub first_of : Mark → Option Step
first_of New = None
first_of (Active p) = None
first_of (Done t) = t.first

-- How many nodes the longest path from a node has, where that is known; else 0.
abbrev pub rank : Mark → ℕ
rank New = 0
rank (Active p) = 0
rank (Done t) = t.height + 1

-- The mark of a node, and what stands at a place of the trail: past its end, nothing was told of node 0.
abbrev pub mark_of : List Mark → ℕ → Mark
mark_of marks v = slice_index_or marks v New

abbrev pub nobody : Followed
nobody = record { by = record { slot = 0; to = 0 }; told = unasked }

abbrev pub followed_at : List Followed → ℕ → Followed
followed_at trail i = get_or trail i nobody

-- The step that is told begins a path of h edges from node v; where none is told, no path from there has an edge.
abbrev pub Begins : Edges → List Mark → ℕ → ℕ → Option Step → Type 0
Begins g marks v h None = h ≡ 0
Begins g marks v h (Some x) = (0 < h) × (tells g v x.slot ≡ Some x.to) × (rank (mark_of marks x.to) ≡ h)

-- What the slots of node v told is so: each leads nowhere or to a node that is done, from where no path is longer
-- than told, and the step that is told begins such a path.
pub record Knows (g : Edges) (marks : List Mark) (v : ℕ) (t : Told) : Type 0 where
  pub each : (s w : ℕ) → s < t.slot → tells g v s ≡ Some w → (0 < rank (mark_of marks w)) × (rank (mark_of marks w) ≤ t.height)
  pub begins : Begins g marks v t.height t.first

-- A mark of node v is right: an active node is on the trail, and all slots of a node that is done were asked.
abbrev pub Right : Edges → List Mark → List Followed → ℕ → Mark → Type 0
Right g marks trail v New = Unit {0}
Right g marks trail v (Active p) = (p < length trail) × ((followed_at trail p).by.to ≡ v)
Right g marks trail v (Done t) = (g.slots ≤ t.slot) × Knows g marks v t

-- Place i of the trail is right.
pub record Placed (g : Edges) (marks : List Mark) (i : ℕ) (f : Followed) : Type 0 where
  pub inside : f.by.to < g.nodes
  pub mark : mark_of marks f.by.to ≡ Active i
  pub knows : Knows g marks f.by.to f.told

-- An edge leads from a node of the trail to the next.
abbrev pub Linked : Edges → Followed → Followed → Type 0
Linked g f next = tells g f.by.to next.by.slot ≡ Some next.by.to

-- How many nodes of the graph have such a mark.
abbrev pub number : (Mark → Bool) → Edges → List Mark → ℕ
number p g marks = count_by p (take g.nodes marks)

-- The notes are right: each mark, each place of the trail, and that the trail is a path. No known path has more nodes
-- than are done; each node is on the trail, done or new. There is a mark for every node.
pub record Sound (g : Edges) (marks : List Mark) (trail : List Followed) : Type 0 where
  pub mark : (v : ℕ) → Right g marks trail v (mark_of marks v)
  pub place : (i : ℕ) → i < length trail → Placed g marks i (followed_at trail i)
  pub edge : (i : ℕ) → i + 1 < length trail → Linked g (followed_at trail i) (followed_at trail (i + 1))
  pub low : (v : ℕ) → rank (mark_of marks v) ≤ number is_done g marks
  pub counted : length trail + number is_done g marks + number is_new g marks ≡ g.nodes
  pub few : g.nodes ≤ 128
  pub all_marks : length marks ≡ 128

abbrev pub SoundIn : Edges → Search → Type 0
SoundIn g s = Sound g s.marks s.trail.items

-- A search that has not begun.
pub record Fresh (s : Search) : Type 0 where
  pub marks : s.marks ≡ replicate 128 New
  pub trail : s.trail.items ≡ []

-- The search with one node more at the end of the trail.
abbrev pub with_top : Search → Followed → Search
with_top s top = record { marks = s.marks; trail = record { items = s.trail.items ++ top ∷ [] } }

-- The search with the new node that a step leads to at the end of the trail.
abbrev pub pushed : Search → Step → Search
pushed s x = record {
  marks = slice_set s.marks x.to (Active (length s.trail.items));
  trail = record { items = s.trail.items ++ record { by = x; told = unasked } ∷ [] };
}

-- A step to a place of the trail, and then the steps from there to the trail's end.
abbrev pub turned : List Followed → Step → ℕ → List Step
turned trail x p = x ∷ map (λ (f : Followed). f.by) (drop (p + 1) trail)

-- Where the slots of node v lead on.
abbrev pub Scanned : Edges → List Mark → ℕ → Next → Type 0
Scanned g marks v (Nowhere t) = (g.slots ≤ t.slot) × Knows g marks v t
Scanned g marks v (On t w) = (tells g v t.slot ≡ Some w) × (w < g.nodes) × (mark_of marks w ≡ New) × Knows g marks v t
Scanned g marks v (Back x p) = (tells g v x.slot ≡ Some x.to) × (mark_of marks x.to ≡ Active p)

-- What is left to do: each new node is reached once, and each node on the trail is left once.
abbrev pub todo : Edges → Search → ℕ
todo g s = number is_new g s.marks + number is_new g s.marks + length s.trail.items

-- Nodes that were reached stay reached.
abbrev pub Reached : Search → Search → Type 0
Reached s t = (v : ℕ) → mark_of t.marks v ≡ New → mark_of s.marks v ≡ New

-- The search is a turn further.
pub record Turned (g : Edges) (s t : Search) : Type 0 where
  pub sound : SoundIn g t
  pub less : todo g t < todo g s
  pub reached : Reached s t

-- All paths from a node were followed.
pub record Explored (g : Edges) (root : ℕ) (s t : Search) : Type 0 where
  pub sound : SoundIn g t
  pub none : t.trail.items ≡ []
  pub reached : Reached s t
  pub left : mark_of t.marks root ≡ New → ⊥

-- Every node is done.
pub record Complete (g : Edges) (marks : List Mark) : Type 0 where
  pub done : (v : ℕ) → v < g.nodes → 0 < rank (mark_of marks v)
  pub known : (v : ℕ) (t : Told) → mark_of marks v ≡ Done t → (g.slots ≤ t.slot) × Knows g marks v t
  pub low : (v : ℕ) → rank (mark_of marks v) ≤ g.nodes
  pub few : g.nodes ≤ 128
