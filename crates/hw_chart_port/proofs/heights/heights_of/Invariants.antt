use Rattle.std.proofs.Common.{◌≡◌}
use Rattle.hw_chart_port.specs.Strips.{greatest_of, least_height, listed_height}
use Rattle.hw_chart_port.proofs.heights.heights_of.Given as goal

-- the least and the greatest height so far
abbrev pub invariant-loop-height : goal.invariant-loop-height
invariant-loop-height l = record {
  low : l.low ≡ least_height (listed_height l.fn.tide) l.height-index;
  high : l.high ≡ greatest_of (listed_height l.fn.tide) l.height-index;
}
