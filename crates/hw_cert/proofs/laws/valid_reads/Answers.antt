use Rattle.hw_cert.proofs.ValidCerts.{valid_reads}
use Rattle.hw_cert.proofs.laws.valid_reads.Goals as goal

pub returns : goal.returns
returns c = valid_reads
