use Rattle.hw_split_text.proofs.Covering.{parts_counted}
use Rattle.hw_split_text.proofs.laws.parts_counted.Goals as goal

pub returns : goal.returns
returns c = parts_counted
