use Rattle.hw_chart_laws.proofs.Waited.{waits_are_kept}
use Rattle.hw_chart_laws.proofs.laws.waits_are_kept.Goals as goal

pub returns : goal.returns
returns c = waits_are_kept
