use Rattle.hw_cert.proofs.ValidCerts.{valid_streams}
use Rattle.hw_cert.proofs.laws.valid_streams.Goals as goal

pub returns : goal.returns
returns c = valid_streams
