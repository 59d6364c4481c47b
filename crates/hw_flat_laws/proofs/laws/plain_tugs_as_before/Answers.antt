use Rattle.hw_flat_laws.proofs.Plain.{plain_tugs}
use Rattle.hw_flat_laws.proofs.laws.plain_tugs_as_before.Goals as goal

pub returns : goal.returns
returns c = plain_tugs
