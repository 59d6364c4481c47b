use Rattle.hw_cert.proofs.Streams.{steps}
use Rattle.hw_cert.proofs.laws.stream_steps.Goals as goal

pub returns : goal.returns
returns c = steps
