use Rattle.std.proofs.Common.{◌≤◌}
use Rattle.hw_trail_laws.specs.Knowing.{knows}
use Rattle.hw_trail_laws.specs.Bridge.{story_of}
use Rattle.hw_trail_laws.specs.Passes.{NoHit}
use Rattle.hw_learn.proofs.walking.another.Given as goal

abbrev pub invariant-loop-earlier : goal.invariant-loop-earlier
invariant-loop-earlier l = (l.earlier ≤ l.place) × NoHit (story_of l.trail) l.earlier l.place (knows l.held)

abbrev pub decreases-loop-earlier : goal.decreases-loop-earlier
decreases-loop-earlier l = l.earlier
