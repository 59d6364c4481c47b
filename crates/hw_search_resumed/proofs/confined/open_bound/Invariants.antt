use Rattle.std.proofs.Common.{ℕ, ◌<◌, None}
use Rattle.hw_search_resumed.specs.Confining.{FindsShipBound}
use Rattle.hw_search_resumed.proofs.confined.open_bound.Given as goal

abbrev pub invariant-loop-ship : goal.invariant-loop-ship
invariant-loop-ship l = (ship : ℕ) → ship < l.ship → FindsShipBound l.flat l.part l.room ship None
