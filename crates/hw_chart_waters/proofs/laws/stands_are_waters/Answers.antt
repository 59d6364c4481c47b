use Rattle.hw_chart_waters.proofs.Found.{are_waters}
use Rattle.hw_chart_waters.proofs.laws.stands_are_waters.Goals as goal

pub returns : goal.returns
returns c = are_waters
