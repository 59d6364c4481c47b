use Rattle.hw_command_texts.proofs.OfPort.{explains_as_listed_law}
use Rattle.hw_command_texts.proofs.laws.explains_as_listed.Goals as goal

pub returns : goal.returns
returns c = explains_as_listed_law
