use Rattle.std.proofs.Common.{◌≤◌, ◌-◌, length}
use Rattle.hw_store.proofs.Holding.{AllBelow, AllAbove}
use Rattle.hw_store.proofs.scan.find.Given as goal

abbrev pub invariant-loop-low : goal.invariant-loop-low
invariant-loop-low l = (l.low ≤ l.high) × (l.high ≤ length l.held) × AllBelow l.held l.id l.low × AllAbove l.held l.id l.high

abbrev pub decreases-loop-low : goal.decreases-loop-low
decreases-loop-low l = l.high - l.low
