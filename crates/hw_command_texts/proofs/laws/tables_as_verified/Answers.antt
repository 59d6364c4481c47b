use Rattle.hw_command_texts.proofs.Told.{tables_as_verified_law}
use Rattle.hw_command_texts.proofs.laws.tables_as_verified.Goals as goal

pub returns : goal.returns
returns c = tables_as_verified_law
