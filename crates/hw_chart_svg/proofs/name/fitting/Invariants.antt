use Rattle.std.proofs.Common.{◌≡◌, ◌+◌, drop, length}
use Rattle.hw_chart_svg.specs.Shortened.{beginning_within}
use Rattle.hw_chart_svg.proofs.name.fitting.Given as goal

-- the bytes so far, and the longest beginning of those that are left
abbrev pub invariant-loop-byte : goal.invariant-loop-byte
invariant-loop-byte l = (l.count ≡ l.byte-index) × (l.count + length (beginning_within l.left (drop l.byte-index l.name)) ≡ length (beginning_within l.room l.name))
