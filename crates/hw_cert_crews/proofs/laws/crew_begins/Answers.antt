use Rattle.hw_cert_crews.proofs.Sharing.{crew_begins}
use Rattle.hw_cert_crews.proofs.laws.crew_begins.Goals as goal

pub returns : goal.returns
returns c = crew_begins
