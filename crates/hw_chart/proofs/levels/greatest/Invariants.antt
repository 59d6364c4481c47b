use Rattle.std.proofs.Common.{◌≡◌}
use Rattle.hw_chart.specs.Figures.{greatest_level}
use Rattle.hw_chart.proofs.levels.greatest.Given as goal

-- the greatest of the levels so far
abbrev pub invariant-loop-slot : goal.invariant-loop-slot
invariant-loop-slot g l = l.most ≡ greatest_level (g.L.Levels.level l.amounts) l.slot
