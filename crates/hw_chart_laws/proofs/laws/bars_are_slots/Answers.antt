use Rattle.hw_chart_laws.proofs.Bars.{bars_are_slots}
use Rattle.hw_chart_laws.proofs.laws.bars_are_slots.Goals as goal

pub returns : goal.returns
returns c = bars_are_slots
