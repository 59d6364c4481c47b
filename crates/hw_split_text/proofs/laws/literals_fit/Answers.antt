use Rattle.hw_split_text.proofs.Covering.{literals_fit}
use Rattle.hw_split_text.proofs.laws.literals_fit.Goals as goal

pub returns : goal.returns
returns c = literals_fit
