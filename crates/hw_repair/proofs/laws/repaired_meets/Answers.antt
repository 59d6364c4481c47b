use Rattle.hw_repair.proofs.Repairs.{repaired_meets}
use Rattle.hw_repair.proofs.laws.repaired_meets.Goals as goal

pub returns : goal.returns
returns c = repaired_meets
