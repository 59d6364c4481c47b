use Rattle.hw_command_check.proofs.Renewed.{renewed_as_checked_law}
use Rattle.hw_command_check.proofs.laws.renewed_as_checked.Goals as goal

pub returns : goal.returns
returns c = renewed_as_checked_law
