use Rattle.std.proofs.Common.{◌≡◌, nat_lt, drop}
use Rattle.hw_chart_svg.specs.Widths.{width_of}
use Rattle.hw_chart_svg.proofs.name.is_wider.Given as goal

-- the bytes that are left are too wide for what is left of the place exactly where the name is for the whole
abbrev pub invariant-loop-byte : goal.invariant-loop-byte
invariant-loop-byte l = nat_lt l.left (width_of (drop l.byte-index l.name)) ≡ nat_lt l.place (width_of l.name)
