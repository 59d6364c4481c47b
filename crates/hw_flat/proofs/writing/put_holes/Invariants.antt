use Rattle.std.proofs.Common.{◌≡◌, ◌++◌, map, drop}
use Rattle.hw_flat.specs.TextWritten.{led, hole_text}
use Rattle.hw_flat.proofs.writing.put_holes.Given as goal

abbrev pub invariant-loop-hole : goal.invariant-loop-hole
invariant-loop-hole l = l.out.items ++ led (map hole_text (drop l.hole-index l.holes)) ≡ l.fn.out.items ++ led (map hole_text l.holes)
