-- What the finder found, read apart.
use Rattle.std.specs.Prelude.{Bool, true, false}
use Rattle.graphs.specs.declared.route.Route.{Route}
use Rattle.cycles.specs.declared.found.Found.{Found}
use Rattle.cycles.specs.declared.found.Found.TheVariants.{Cycle, Longest}

-- Whether it is a cycle.
abbrev pub closes : Found → Bool
closes (Cycle p) = true
closes (Longest p) = false

-- The cycle, or the longest path.
abbrev pub route_of : Found → Route
route_of (Cycle p) = p
route_of (Longest p) = p
