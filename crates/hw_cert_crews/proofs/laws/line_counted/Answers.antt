use Rattle.hw_cert_crews.proofs.Counting.{counted}
use Rattle.hw_cert_crews.proofs.laws.line_counted.Goals as goal

pub returns : goal.returns
returns c = counted
