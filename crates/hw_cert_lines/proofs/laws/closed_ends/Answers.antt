use Rattle.hw_cert_lines.proofs.Closed.{closed_from}
use Rattle.hw_cert_lines.proofs.laws.closed_ends.Goals as goal
use Rattle.std.proofs.Common.{[], refl}

pub returns : goal.returns
returns c = λ f all valid. closed_from f all [] valid refl
