-- What a path means.
use Rattle.std.specs.Prelude.{List, take}
use Rattle.graphs.specs.declared.route.Route.{Route}
use Rattle.graphs.specs.declared.route.Step.{Step}

-- The steps of a path.
abbrev pub steps_of : Route → List Step
steps_of p = take p.length p.steps
