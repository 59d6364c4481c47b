use Rattle.hw_cert_lines.proofs.Pushed.{numbers_deleted}
use Rattle.hw_cert_lines.proofs.laws.deletion_pushed.Goals as goal

pub returns : goal.returns
returns c = numbers_deleted
