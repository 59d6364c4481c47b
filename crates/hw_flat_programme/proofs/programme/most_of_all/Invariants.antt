use Rattle.std.proofs.Common.{◌≡◌, ◌≤◌, ◌+◌, ◌-◌, ◌*◌}
use Rattle.hw_flat_programme.specs.Rows.{most_from}
use Rattle.hw_flat_programme.proofs.programme.most_of_all.Given as goal

-- with the ships that are left it is all of them
abbrev pub invariant-loop-ship : goal.invariant-loop-ship
invariant-loop-ship l =
    (l.sum + most_from l.flat l.ship (l.flat.ships - l.ship) ≡ most_from l.flat 0 l.flat.ships) × (l.sum ≤ 1_000_000_000_000 * l.ship)
