use Rattle.hw_split_text.proofs.Covering.{one_part}
use Rattle.hw_split_text.proofs.laws.one_part.Goals as goal

pub returns : goal.returns
returns c = one_part
