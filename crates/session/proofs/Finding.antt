-- A search from one node gives a path to another exactly if there is one.
use Rattle.std.proofs.Common.{◌≡◌, ℕ, ◌<◌, true, List, [], ◌∷◌, length, Some, None, Option, ◌∙◌, subst, ⊎_elim, arith}
use Rattle.std.proofs.lemmas.Bool.{both_ways, cases_eq}
use Rattle.charts.specs.Slots.{forward}
use Rattle.graphs.proofs.Paths.{edge_from}
use Rattle.graphs.proofs.Sets.{added, kept}
use Rattle.graphs.specs.Graph.{Edges, Leads}
use Rattle.graphs.specs.Nodes.{Adds, Empty, has}
use Rattle.graphs.specs.Routes.{steps_of}
use Rattle.graphs.specs.Searching.{RouteTo, Searched, reached}
use Rattle.graphs.specs.declared.nodes.NodeSet.{NodeSet}
use Rattle.graphs.specs.declared.route.Route.{Route}
use Rattle.graphs.specs.declared.route.Step.{Step}
use Rattle.graphs.specs.declared.search.Reached.{Reached}
use Rattle.tables.specs.Table.{Sound, Table}
use Rattle.session.specs.Telling.{Gives}

-- the set of one node
only : (from : ℕ) (none one : NodeSet) → Empty none → Adds none from one → (k : ℕ) → has one k ≡ true → k ≡ from
only from none one empty adds k there =
    ⊎_elim
    (λ same. same)
    (λ ne. absurd (both_ways (has one k) (kept none from one adds k ne ∙ empty k) there))
    (cases_eq k from)

first_inside : (g : Edges) (from : ℕ) (steps : List Step) (to : ℕ) → 0 < length steps → Leads g from steps to → from < g.nodes
first_inside g from [] to some leads = absurd (omega arith)
first_inside g from (x ∷ steps) to some leads = (edge_from g from x.slot x.to leads.0).0

pub path_is : (t : Table) (from to : ℕ) (none one : NodeSet) (r : Reached) (answer : Option Route) → Sound t → Empty none → Adds none from one → Searched (forward t) (has one) r → RouteTo (forward t) (has one) r to answer → Gives t from to answer
path_is t from to none one r None sound empty adds found unmarked = λ steps some leads.
    let inside = first_inside (forward t) from steps to some leads in
    both_ways (reached r to) unmarked
    ((found.marks to).1 (record { from = from; start = added none from one adds (omega (arith, inside, sound.few)); steps = steps; some = some; leads = leads }))
path_is t from to none one r (Some p) sound empty adds found told =
    let starts = only from none one empty adds p.start told.1.starts in
    record {
      start = starts;
      some = told.1.some;
      few = told.1.few;
      leads = subst (λ n. Leads (forward t) n (steps_of p) to) starts told.1.leads;
    }
