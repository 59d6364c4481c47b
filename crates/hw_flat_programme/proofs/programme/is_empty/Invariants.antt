use Rattle.std.proofs.Common.{◌≡◌, ◌-◌}
use Rattle.hw_flat_programme.specs.declared.format.Format.{Format}
use Rattle.hw_flat_programme.specs.Rows.{ships_terms}
use Rattle.hw_flat_programme.proofs.programme.is_empty.Given as goal

-- the ships so far have no value
abbrev pub invariant-loop-ship : goal.invariant-loop-ship
invariant-loop-ship l =
    (format : Format) → ships_terms format l.flat l.ship (l.flat.ships - l.ship) ≡ ships_terms format l.flat 0 l.flat.ships
