use Rattle.hw_model_laws.proofs.Tested.{tested, tests}
use Rattle.hw_model_laws.proofs.laws.refutes_computed.Goals as goal

pub returns : goal.returns
returns c = λ f source best room. (tested f source best room, tests f source best room)
