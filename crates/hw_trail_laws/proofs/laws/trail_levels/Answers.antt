use Rattle.hw_trail_laws.proofs.Decisions.{has_levels}
use Rattle.hw_trail_laws.proofs.laws.trail_levels.Goals as goal

pub returns : goal.returns
returns c = has_levels
