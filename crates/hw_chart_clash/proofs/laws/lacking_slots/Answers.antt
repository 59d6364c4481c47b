use Rattle.hw_chart_clash.proofs.Told.{lacking_slots_law}
use Rattle.hw_chart_clash.proofs.laws.lacking_slots.Goals as goal

pub returns : goal.returns
returns c = lacking_slots_law
