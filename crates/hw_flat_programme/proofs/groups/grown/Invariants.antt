use Rattle.std.proofs.Common.{◌≡◌, ◌≤◌, ◌+◌, ◌-◌, All, length}
use Rattle.hw_flat_programme.specs.Rows.{IsWindow, grown, grown_from}
use Rattle.hw_flat_programme.proofs.groups.grown.Given as goal

-- with the ships that are left it is grown by all of them
abbrev pub invariant-loop-ship : goal.invariant-loop-ship
invariant-loop-ship l = record {
  value : grown_from l.apart l.spans l.ship (l.apart.ships - l.ship) ≡ grown l.apart l.fn.two;
  windows : All (IsWindow l.apart) l.spans;
  few : length l.spans ≤ l.ship + 2;
}
