use Rattle.hw_split_text.proofs.Covering.{parts_open}
use Rattle.hw_split_text.proofs.laws.parts_open.Goals as goal

pub returns : goal.returns
returns c = parts_open
