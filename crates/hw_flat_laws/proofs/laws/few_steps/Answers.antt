use Rattle.hw_flat_laws.proofs.Plain as plain
use Rattle.hw_flat_laws.proofs.laws.few_steps.Goals as goal

pub returns : goal.returns
returns c = plain.few_steps
