use Rattle.std.proofs.Common.{◌≡◌, ◌++◌, drop, All}
use Rattle.hw_tide.specs.Twelfths.{InLimits}
use Rattle.hw_tide.specs.Tides.{heights_between}
use Rattle.hw_tide.proofs.filling.push_between.Given as goal

abbrev pub invariant-loop-column : goal.invariant-loop-column
invariant-loop-column l = record {
  told : l.heights.items ++ heights_between l.past l.size (drop l.column l.lows) (drop l.column l.highs) ≡ l.fn.heights.items ++ heights_between l.past l.size l.lows l.highs;
  small : All InLimits l.fn.heights.items → All InLimits l.heights.items;
}
