use Rattle.std.proofs.Common.{◌≡◌, ◌<◌, ℕ, [], None, length, get_or}
use Rattle.hw_flat_programme.specs.Rows.{hole_between}
use Rattle.hw_flat_programme.proofs.apart.HoleTable.new.Given as goal

-- the ships so far have theirs
abbrev pub invariant-loop-v : goal.invariant-loop-v
invariant-loop-v l = record {
  size : length l.rows ≡ 40;
  done : (k w : ℕ) → k < l.v → w < 40 → get_or (get_or l.rows k []) w None ≡ hole_between l.flat.rules k w;
}
