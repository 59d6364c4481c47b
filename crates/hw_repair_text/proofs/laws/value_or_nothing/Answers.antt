use Rattle.hw_repair_text.proofs.Told.{value_or_nothing_law}
use Rattle.hw_repair_text.proofs.laws.value_or_nothing.Goals as goal

pub returns : goal.returns
returns c = value_or_nothing_law
