use Rattle.std.proofs.Common.{◌≡◌, ◌∷◌, map, take}
use Rattle.cycles.specs.declared.search.Followed.{Followed}
use Rattle.cycles.proofs.search.Search.cycle.Given as goal

-- the step to the place, and then the steps along the trail so far
abbrev pub invariant-loop-followed : goal.invariant-loop-followed
invariant-loop-followed l = l.steps.items ≡ l.fn.step ∷ map (λ (f : Followed). f.by) (take l.followed-index l.followed-items)
