use Rattle.hw_audit.proofs.Broken.{broken_exactly}
use Rattle.hw_audit.proofs.laws.broken_exactly.Goals as goal

pub returns : goal.returns
returns c = broken_exactly
