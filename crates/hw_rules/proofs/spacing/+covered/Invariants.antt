use Rattle.std.specs.Prelude.{count_by}
use Rattle.hw_rules.proofs.Holes.{ahead}
use Rattle.hw_rules.proofs.spacing.+covered.Given as goal

-- the holes that end at `lo` or after it: each call has one fewer
abbrev pub decreases-covered : goal.decreases-covered
decreases-covered l = count_by (ahead l.lo) l.holes.now
