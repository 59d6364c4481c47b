use Rattle.hw_chart_clash.proofs.Told.{denied_slots_law}
use Rattle.hw_chart_clash.proofs.laws.denied_slots.Goals as goal

pub returns : goal.returns
returns c = denied_slots_law
