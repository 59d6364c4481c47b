use Rattle.hw_subject.proofs.Reports.{certificates_decide_law}
use Rattle.hw_subject.proofs.laws.certificates_decide.Goals as goal

pub returns : goal.returns
returns c = certificates_decide_law
