-- What a rule table answers to a question.
use Rattle.std.specs.Prelude.{◌≡◌, ℕ, ◌<◌, ◌≤◌, List, length, Option, MatchOption}
use Rattle.tables.specs.Table.{Table, tells_next, tells_label}
use Rattle.graphs.specs.Graph.{Leads}
use Rattle.graphs.specs.Routes.{steps_of}
use Rattle.graphs.specs.declared.route.Route.{Route}
use Rattle.graphs.specs.declared.route.Step.{Step}
use Rattle.charts.specs.Slots.{forward}
use Rattle.cycles.specs.Finding.{Finds}
use Rattle.cycles.specs.declared.found.Found.{Found}
use Rattle.script.specs.declared.command.Question.{Question}
use Rattle.script.specs.declared.command.Question.TheVariants.{States, Next, Label, Search, Find}
use Rattle.session.specs.declared.answer.Answer.{Answer}
use Rattle.session.specs.declared.answer.Answer.TheVariants as answer

-- A path of one or more edges in the forward graph, at most as many as there are states, from one node to another.
pub record LeadsTo (t : Table) (from to : ℕ) (p : Route) : Type 0 where
  pub start : p.start ≡ from
  pub some : 0 < length (steps_of p)
  pub few : length (steps_of p) ≤ t.states
  pub leads : Leads (forward t) from (steps_of p) to

-- Such a path is given, or none exactly if there is none.
abbrev pub Gives : Table → ℕ → ℕ → Option Route → Type 0
Gives t from to answer = MatchOption answer ((steps : List Step) → 0 < length steps → Leads (forward t) from steps to → ⊥) (LeadsTo t from to)

-- The answer to a question, by the meaning of the table. A path and a cycle are known by their properties.
abbrev pub Tells : Table → Question → Answer → Type 0
Tells t States a = a ≡ answer.States t.states
Tells t (Next state byte) a = a ≡ answer.Next (tells_next t state byte)
Tells t (Label state) a = a ≡ answer.Label (tells_label t state)
Tells t (Search from to) a = (p : Option Route) × Gives t from to p × (a ≡ answer.Path p)
Tells t Find a = (f : Found) × Finds (forward t) f × (a ≡ answer.Found f)
