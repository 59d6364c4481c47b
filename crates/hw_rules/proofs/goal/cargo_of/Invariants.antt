use Rattle.std.proofs.Common.{◌≡◌, ◌≤◌, ◌*◌, drop, Some}
use Rattle.hw_model.specs.Timetables.{plus, cargo_from, cargo}
use Rattle.hw_rules.proofs.goal.cargo_of.Given as goal

abbrev pub invariant-loop-ship : goal.invariant-loop-ship
invariant-loop-ship l = record {
  small : l.sum ≤ 1_000_000_000_000 * l.ship;
  told : plus (Some l.sum) (cargo_from l.flat l.ship (drop l.ship l.table)) ≡ cargo l.flat l.table;
}
