use Rattle.hw_command_texts.proofs.OfPort.{flattens_as_listed_law}
use Rattle.hw_command_texts.proofs.laws.flattens_as_listed.Goals as goal

pub returns : goal.returns
returns c = flattens_as_listed_law
