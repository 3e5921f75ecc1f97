use Rattle.std.proofs.Common.{refl, sym, subst}
use Rattle.charts.specs.Slots.{forward}
use Rattle.cycles.specs.Finding.{Finds}
use Rattle.script.specs.declared.command.Question.{Question}
use Rattle.session.specs.Telling.{Tells}
use Rattle.session.specs.declared.answer.Answer.TheVariants as answer
use Rattle.session.proofs.answer.ask.Goals as goal

pub returns-in-Find : goal.returns-in-Find
returns-in-Find g c =
    let meaning = g.T.RuleTable.meaning in
    let table = c.args.table.now in
    subst (λ (q : Question). Tells (meaning table) q (answer.Found c.find.result)) (sym c.in-Find.is)
    (c.find.result, subst (λ t. Finds (forward (meaning t)) c.find.result) c.new.ensures c.find.ensures, refl)
