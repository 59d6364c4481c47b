use Rattle.hw_command_texts.proofs.RepairDecided.{explained_as_verified_law}
use Rattle.hw_command_texts.proofs.repair_laws.explained_as_verified.Goals as goal

pub returns : goal.returns
returns c = explained_as_verified_law
