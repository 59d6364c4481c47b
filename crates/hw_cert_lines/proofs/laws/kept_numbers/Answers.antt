use Rattle.hw_cert_lines.proofs.Keeping.{kept_numbers}
use Rattle.hw_cert_lines.proofs.laws.kept_numbers.Goals as goal

pub returns : goal.returns
returns c = kept_numbers
