use Rattle.hw_cert_lines.proofs.Deleted.{valid_deletes}
use Rattle.hw_cert_lines.proofs.laws.valid_deletes.Goals as goal

pub returns : goal.returns
returns c = valid_deletes
