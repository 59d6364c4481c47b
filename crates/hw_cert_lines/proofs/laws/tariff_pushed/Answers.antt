use Rattle.hw_cert_lines.proofs.Added.{tariff_added}
use Rattle.hw_cert_lines.proofs.laws.tariff_pushed.Goals as goal

pub returns : goal.returns
returns c = tariff_added
