use Rattle.std.proofs.Common.{length, sym, ap, ◌∙◌, rules}
use Rattle.script.specs.Words.{blank}
use Rattle.script.proofs.Cutting.{no_word, first_word}
use Rattle.script.proofs.Fronts.{front_or_all}
use Rattle.script.proofs.words.WordsIterator.next.Goals as goal

pub returns-in_err-word_start-clause-steps : goal.returns-in_err-word_start-clause-steps
returns-in_err-word_start-clause-steps c =
    let none = sym c.self.view_is ∙ no_word c.self.inside.rest.now (sym c.word_start.ensures ∙ c.in_err-word_start.was) in
    rw c.from_residual.ensures (none, none)

pub split_at-requires-2 : goal.split_at-requires-2
split_at-requires-2 c = (front_or_all blank _ _ _ c.word_end.ensures c.unwrap_or.ensures).within

pub returns-clause-steps : goal.returns-clause-steps
returns-clause-steps c =
    let cut = c.split_at-2.ensures in
    sym c.self.view_is
    ∙ first_word c.self.inside.rest.now c.split_at.result.1.now c.in_ok-word_start.field-0 (sym c.word_start.ensures ∙ c.in_ok-word_start.was) c.split_at.ensures.back
    _ (front_or_all blank _ _ _ c.word_end.ensures c.unwrap_or.ensures) _ _ cut.front cut.back

pub returns-clause-goes : goal.returns-clause-goes
returns-clause-goes c = let fewer = ap length (returns-clause-steps c) in search rules
