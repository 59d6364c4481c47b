use Rattle.hw_cert_crews.proofs.Sharing.{crew_relays}
use Rattle.hw_cert_crews.proofs.laws.crew_relays.Goals as goal

pub returns : goal.returns
returns c = crew_relays
