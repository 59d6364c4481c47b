use Rattle.hw_command_texts.proofs.Told.{one_table_law}
use Rattle.hw_command_texts.proofs.laws.one_table.Goals as goal

pub returns : goal.returns
returns c = one_table_law
