use Rattle.hw_repair_text.proofs.Told.{total_is_of_changes_law}
use Rattle.hw_repair_text.proofs.laws.total_is_of_changes.Goals as goal

pub returns : goal.returns
returns c = total_is_of_changes_law
