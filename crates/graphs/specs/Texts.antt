-- What is printed of a path.
use Rattle.std.specs.Prelude.{ℕ, List, ◌++◌, codes, decimal}
use Rattle.std.specs.List.{flat_map}
use Rattle.graphs.specs.declared.route.Route.{Route}
use Rattle.graphs.specs.declared.route.Step.{Step}
use Rattle.graphs.specs.Routes.{steps_of}

-- The slot that is taken, and the node that it leads to.
abbrev pub step_text : Step → List ℕ
step_text x = codes " " ++ (decimal x.slot ++ (codes " " ++ decimal x.to))

-- The node where the path starts, and then its steps.
abbrev pub route_text : Route → List ℕ
route_text p = decimal p.start ++ flat_map step_text (steps_of p)
