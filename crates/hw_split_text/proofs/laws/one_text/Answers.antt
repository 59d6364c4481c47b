use Rattle.hw_split_text.proofs.Spelled.{one_text}
use Rattle.hw_split_text.proofs.laws.one_text.Goals as goal

pub returns : goal.returns
returns c = one_text
