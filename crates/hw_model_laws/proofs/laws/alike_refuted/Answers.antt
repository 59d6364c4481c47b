use Rattle.hw_model_laws.proofs.Alikes.{alike_refutes}
use Rattle.hw_model_laws.proofs.laws.alike_refuted.Goals as goal

pub returns : goal.returns
returns c = alike_refutes
