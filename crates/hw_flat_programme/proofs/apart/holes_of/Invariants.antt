use Rattle.std.proofs.Common.{◌≡◌, ◌<◌, ℕ, None, length, get_or}
use Rattle.hw_flat_programme.specs.Rows.{hole_between}
use Rattle.hw_flat_programme.proofs.apart.holes_of.Given as goal

-- the ships so far have theirs
abbrev pub invariant-loop-w : goal.invariant-loop-w
invariant-loop-w l = record {
  size : length l.holes ≡ 40;
  done : (k : ℕ) → k < l.w → get_or l.holes k None ≡ hole_between l.flat.rules l.v k;
}
