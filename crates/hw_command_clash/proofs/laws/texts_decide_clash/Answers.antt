use Rattle.hw_command_clash.proofs.Decided.{texts_decide_clash_law}
use Rattle.hw_command_clash.proofs.laws.texts_decide_clash.Goals as goal

pub returns : goal.returns
returns c = texts_decide_clash_law
