use Rattle.script.proofs.ReadingBack.{read_back}
use Rattle.script.proofs.laws.every_command_is_read_back.Goals as goal

pub returns : goal.returns
returns c = read_back
