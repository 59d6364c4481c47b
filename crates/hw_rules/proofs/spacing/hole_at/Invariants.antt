use Rattle.std.proofs.Common.{◌≡◌, true, take}
use Rattle.std.specs.List.{list_all}
use Rattle.hw_model.specs.Rules.{misses}
use Rattle.hw_rules.proofs.spacing.hole_at.Given as goal

abbrev pub invariant-loop-hole : goal.invariant-loop-hole
invariant-loop-hole l = list_all (misses l.d) (take l.hole-index l.holes) ≡ true
