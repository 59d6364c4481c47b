use Rattle.hw_cert.proofs.Formed.{plain_read}
use Rattle.hw_cert.proofs.laws.plain_read.Goals as goal

pub returns : goal.returns
returns c = plain_read
