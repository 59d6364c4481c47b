use Rattle.hw_cert_crews.proofs.Sharing.{crew_new}
use Rattle.hw_cert_crews.proofs.laws.crew_new.Goals as goal

pub returns : goal.returns
returns c = crew_new
