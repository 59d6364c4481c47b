use Rattle.hw_cert.proofs.ValidCerts.{third_reads}
use Rattle.hw_cert.proofs.laws.third_reads.Goals as goal

pub returns : goal.returns
returns c = third_reads
