use Rattle.hw_command_texts.proofs.RepairDecided.{one_explanation_law}
use Rattle.hw_command_texts.proofs.repair_laws.one_explanation.Goals as goal

pub returns : goal.returns
returns c = one_explanation_law
