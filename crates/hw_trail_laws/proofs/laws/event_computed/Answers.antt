use Rattle.hw_trail_laws.proofs.Decisions.{event_is}
use Rattle.hw_trail_laws.proofs.laws.event_computed.Goals as goal

pub returns : goal.returns
returns c = event_is
