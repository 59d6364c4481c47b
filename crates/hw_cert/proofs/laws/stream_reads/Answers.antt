use Rattle.hw_cert.proofs.WholeCerts.{stream_agrees}
use Rattle.hw_cert.proofs.laws.stream_reads.Goals as goal

pub returns : goal.returns
returns c = stream_agrees
