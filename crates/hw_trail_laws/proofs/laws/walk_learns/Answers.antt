use Rattle.hw_trail_laws.proofs.Learnt.{learns_from}
use Rattle.hw_trail_laws.proofs.laws.walk_learns.Goals as goal

pub returns : goal.returns
returns c = learns_from
