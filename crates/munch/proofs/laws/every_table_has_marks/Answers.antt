use Rattle.munch.proofs.Marks.{right_marks}
use Rattle.munch.proofs.laws.every_table_has_marks.Goals as goal

pub returns : goal.returns
returns c = right_marks
