use Rattle.hw_chart_repair.proofs.Told.{hatched_is_not_granted_law}
use Rattle.hw_chart_repair.proofs.laws.hatched_is_not_granted.Goals as goal

pub returns : goal.returns
returns c = hatched_is_not_granted_law
