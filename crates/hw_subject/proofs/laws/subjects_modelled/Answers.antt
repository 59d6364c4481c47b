use Rattle.hw_subject.proofs.Modelled.{subjects_modelled_law}
use Rattle.hw_subject.proofs.laws.subjects_modelled.Goals as goal

pub returns : goal.returns
returns c = subjects_modelled_law
