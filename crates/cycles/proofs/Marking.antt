-- What changes, and what stays, when a node that is not done gets another mark.
use Rattle.std.proofs.Common.{◌≡◌, ℕ, ◌+◌, ◌<◌, ◌≤◌, Bool, cond, ◌≢◌, List, length, get_or, take, set, sum_by, Some, None, Option, sym, ap, ◌∙◌, subst, ⊎_elim, arith}
use Rattle.std.proofs.lemmas.List.{get_or-set_same, get_or-set_other, get_or-take, length-take-le}
use Rattle.std.proofs.lemmas.List.Sums.{sum_by-set}
use Rattle.std.proofs.lemmas.Bool.{cases_eq}
use Rattle.graphs.specs.Graph.{Edges}
use Rattle.graphs.specs.declared.route.Step.{Step}
use Rattle.std.proofs.Math.Seq.{take-set-lt}
use Rattle.cycles.specs.declared.search.Told.{Told}
use Rattle.cycles.specs.declared.search.Mark.{Mark}
use Rattle.cycles.specs.declared.search.Mark.TheVariants.{New}
use Rattle.cycles.specs.Search.{Begins, Knows, rank, mark_of, number}

abbrev pub one_if : Bool → ℕ
one_if b = cond b 1 0

-- nodes with two different marks are two
pub apart : (marks : List Mark) (u v : ℕ) (m n : Mark) → mark_of marks u ≡ m → mark_of marks v ≡ n → (m ≡ n → ⊥) → u ≢ v
apart marks u v m n is_m is_n differ e = differ (sym is_m ∙ ap (mark_of marks) e ∙ is_n)

-- node u has mark m, and gets mark y
module _ (g : Edges) (marks : List Mark) (u : ℕ) (m y : Mark) (inside : u < g.nodes) (long : g.nodes ≤ length marks) (was : mark_of marks u ≡ m) where
  -- its mark, and those of the other nodes
  pub mark_here : mark_of (set marks u y) u ≡ y
  mark_here = get_or-set_same marks u y New (omega arith)

  pub mark_there : (v : ℕ) → v ≢ u → mark_of (set marks u y) v ≡ mark_of marks v
  mark_there v = get_or-set_other marks u v y New

  -- a fact of all nodes and their marks
  pub mark_each : (P : ℕ → Mark → Type 0) → P u y → ((v : ℕ) → v ≢ u → P v (mark_of marks v)) → (v : ℕ) → P v (mark_of (set marks u y) v)
  mark_each P here there v =
      ⊎_elim
      (λ e. subst (λ n. P n (mark_of (set marks u y) n)) (sym e) (subst (P u) (sym mark_here) here))
      (λ ne. subst (P v) (sym (mark_there v ne)) (there v ne))
      (cases_eq v u)

  -- how many nodes have such a mark
  pub number_change : (p : Mark → Bool) → number p g (set marks u y) + one_if (p m) ≡ number p g marks + one_if (p y)
  number_change p =
      let f : Mark → ℕ = λ n. one_if (p n) in
      let front = take g.nodes marks in
      let at : f (get_or front u New) ≡ f m = ap f (get_or-take g.nodes marks u New inside ∙ was) in
      let changed = sum_by-set f front u y New (omega (arith, length-take-le g.nodes marks long)) in
      omega (arith, at, changed, ap (sum_by f) (take-set-lt g.nodes marks u y inside))

  -- what the slots of a node told stays so
  pub knows_still : rank m ≡ 0 → (v : ℕ) (t : Told) → Knows g marks v t → Knows g (set marks u y) v t
  knows_still unknown v t k = record {
    each = λ s w less leads. let old = k.each s w less leads in subst (λ n. (0 < rank n) × (rank n ≤ t.height)) (sym (same w old.0)) old;
    begins = begins t.first k.begins;
  }
    where
      same : (w : ℕ) → 0 < rank (mark_of marks w) → mark_of (set marks u y) w ≡ mark_of marks w
      same w some = mark_there w (λ e. omega (arith, ap (λ n. rank (mark_of marks n)) e, ap rank was))

      begins : (first : Option Step) → Begins g marks v t.height first → Begins g (set marks u y) v t.height first
      begins None none = none
      begins (Some x) old = (old.0, old.1, ap rank (same x.to (omega (arith, old.0, old.2))) ∙ old.2)

  -- a node that was reached stays reached
  pub reached_still : (y ≡ New → ⊥) → (v : ℕ) → mark_of (set marks u y) v ≡ New → (v ≢ u) × (mark_of marks v ≡ New)
  reached_still old = mark_each (λ v n. n ≡ New → (v ≢ u) × (mark_of marks v ≡ New)) (λ e. absurd (old e)) (λ v ne e. (ne, e))
