use Rattle.hw_trail_laws.proofs.Decisions.{clauses_few}
use Rattle.hw_trail_laws.proofs.laws.few_rooms.Goals as goal

pub returns : goal.returns
returns c = clauses_few
