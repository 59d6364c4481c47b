use Rattle.hw_model_laws.proofs.QuietTests.{quiet_tested}
use Rattle.hw_model_laws.proofs.laws.quiet_computed.Goals as goal

pub returns : goal.returns
returns c = quiet_tested
