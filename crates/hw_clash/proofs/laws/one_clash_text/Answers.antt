use Rattle.hw_clash.proofs.Spelled.{one_clash_text}
use Rattle.hw_clash.proofs.laws.one_clash_text.Goals as goal

pub returns : goal.returns
returns c = one_clash_text
