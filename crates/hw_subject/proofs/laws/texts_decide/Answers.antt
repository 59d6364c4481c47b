use Rattle.hw_subject.proofs.Reports.{texts_decide_law}
use Rattle.hw_subject.proofs.laws.texts_decide.Goals as goal

pub returns : goal.returns
returns c = texts_decide_law
