use Rattle.hw_audit.proofs.Begun.{same_timetables}
use Rattle.hw_audit.proofs.laws.same_timetables.Goals as goal

pub returns : goal.returns
returns c = same_timetables
