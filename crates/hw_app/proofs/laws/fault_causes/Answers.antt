use Rattle.hw_app.proofs.RunFaults.{fault_causes}
use Rattle.hw_app.proofs.laws.fault_causes.Goals as goal

pub returns : goal.returns
returns c = fault_causes
