use Rattle.hw_port_laws.proofs.Permits.{same_problem_law}
use Rattle.hw_port_laws.proofs.laws.same_problem.Goals as goal

pub returns : goal.returns
returns c = same_problem_law
