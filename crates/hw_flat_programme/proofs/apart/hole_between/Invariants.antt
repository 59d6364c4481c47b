use Rattle.std.proofs.Common.{◌≡◌, drop}
use Rattle.hw_flat_programme.specs.Rows.{hole_between}
use Rattle.hw_flat_programme.proofs.apart.hole_between.Given as goal

-- the rules so far have no hole of the two ships
abbrev pub invariant-loop-rule : goal.invariant-loop-rule
invariant-loop-rule l = hole_between (drop l.rule-index l.flat.rules) l.v l.w ≡ hole_between l.flat.rules l.v l.w
