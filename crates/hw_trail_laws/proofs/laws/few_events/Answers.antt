use Rattle.hw_trail_laws.proofs.Many.{few_events}
use Rattle.hw_trail_laws.proofs.laws.few_events.Goals as goal

pub returns : goal.returns
returns c = few_events
