use Rattle.std.proofs.Common.{◌≤◌, length}
use Rattle.hw_trail.proofs.Made.{NoneFrom}
use Rattle.hw_trail.proofs.trail.Trail.last_made.Given as goal

abbrev pub invariant-loop-place : goal.invariant-loop-place
invariant-loop-place l = (l.place ≤ length l.self.events) × NoneFrom l.self l.lit l.place

abbrev pub decreases-loop-place : goal.decreases-loop-place
decreases-loop-place l = l.place
