use Rattle.hw_chart_waters.proofs.Apart.{named_are_waters}
use Rattle.hw_chart_waters.proofs.laws.labels_are_waters.Goals as goal

pub returns : goal.returns
returns c = named_are_waters
