use Rattle.hw_cert.proofs.ValidCerts.{third_streams}
use Rattle.hw_cert.proofs.laws.third_streams.Goals as goal

pub returns : goal.returns
returns c = third_streams
