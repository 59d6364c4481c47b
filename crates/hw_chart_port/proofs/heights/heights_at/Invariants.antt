use Rattle.std.proofs.Common.{◌≡◌}
use Rattle.hw_chart_port.specs.Strips.{greatest_of, height_in, least_height}
use Rattle.hw_chart_port.proofs.heights.heights_at.Given as goal

-- the least and the greatest height so far
abbrev pub invariant-loop-slot : goal.invariant-loop-slot
invariant-loop-slot l = record {
  low : l.low ≡ least_height (height_in l.fn.tide l.place) l.slot;
  high : l.high ≡ greatest_of (height_in l.fn.tide l.place) l.slot;
}
