use Rattle.hw_subject.proofs.Decided.{subjects_decided_law}
use Rattle.hw_subject.proofs.laws.subjects_decided.Goals as goal

pub returns : goal.returns
returns c = subjects_decided_law
