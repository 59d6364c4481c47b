use Rattle.hw_flat_laws.proofs.Converse.{wanted_refuses_law}
use Rattle.hw_flat_laws.proofs.laws.wanted_refuses.Goals as goal

pub returns : goal.returns
returns c = wanted_refuses_law
