-- The search before it begins.
use Rattle.std.proofs.Common.{◌≡◌, ℕ, zero, suc, ◌*◌, ◌≤◌, Bool, length, take, replicate, sum_by, sym, ap, ◌∙◌, subst, suc-mul, arith}
use Rattle.std.proofs.lemmas.List.{take-replicate, length-replicate}
use Rattle.std.proofs.lemmas.List.Sums.{sum_by-cons}
use Rattle.graphs.specs.Graph.{Edges}
use Rattle.graphs.proofs.Lists.{everywhere}
use Rattle.cycles.specs.declared.search.Mark.{Mark}
use Rattle.cycles.specs.declared.search.Mark.TheVariants.{New}
use Rattle.cycles.specs.declared.search.Search.{Search}
use Rattle.cycles.specs.Search.{Fresh, Right, SoundIn, mark_of, rank, number, is_new, is_done}
use Rattle.cycles.proofs.Marking.{one_if}

-- a sum over equal values
sum_replicate : {X : Type 0} (f : X → ℕ) (n : ℕ) (x : X) → sum_by f (replicate n x) ≡ n * f x
sum_replicate f zero x = omega arith
sum_replicate f (suc n) x = sum_by-cons f x (replicate n x) ∙ omega (arith, sum_replicate f n x, suc-mul n (f x))

pub fresh_sound : (g : Edges) (s : Search) → Fresh s → g.nodes ≤ 128 → SoundIn g s
fresh_sound g s h few = record {
  mark = λ v. subst (Right g s.marks s.trail.items v) (sym (unmarked v)) tt;
  place = λ i less. absurd (omega (arith, none));
  edge = λ i less. absurd (omega (arith, none));
  low = λ v. omega (arith, ap rank (unmarked v));
  counted = omega (arith, none, count is_new, count is_done);
  few = few;
  all_marks = ap length h.marks ∙ length-replicate 128 New;
}
  where
    none : length s.trail.items ≡ 0
    none = ap length h.trail

    unmarked : (v : ℕ) → mark_of s.marks v ≡ New
    unmarked v = ap (λ l. mark_of l v) h.marks ∙ everywhere 128 New v

    count : (p : Mark → Bool) → number p g s.marks ≡ g.nodes * one_if (p New)
    count p =
        let f : Mark → ℕ = λ m. one_if (p m) in
        ap (λ l. sum_by f (take g.nodes l)) h.marks ∙ ap (sum_by f) (take-replicate g.nodes 128 New few) ∙ sum_replicate f g.nodes New
