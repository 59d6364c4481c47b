use Rattle.hw_chart_laws.proofs.Without.{reasons_told}
use Rattle.hw_chart_laws.proofs.laws.reasons_are_told.Goals as goal

pub returns : goal.returns
returns c = reasons_told
