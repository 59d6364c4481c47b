use Rattle.std.proofs.Common.{◌≡◌, ◌+◌, ◌≤◌}
use Rattle.hw_model.specs.Refuting.{greatest_sum}
use Rattle.hw_prop.specs.Explains.{Explains}
use Rattle.hw_prop.specs.Reductions.{edge_of}
use Rattle.hw_goal.proofs.widening.widen.Given as goal

abbrev pub invariant-loop-ship : goal.invariant-loop-ship
invariant-loop-ship l = record {
  ships : l.denied.ships ≡ l.flat.ships;
  slots : l.denied.slots ≡ l.flat.slots;
  small : l.spare ≤ 40_000_000_000_000;
  sum : greatest_sum l.flat l.denied + l.spare ≤ l.best;
  explains : Explains (edge_of l.c) l.room l.denied;
}

abbrev pub invariant-loop-ship-2 : goal.invariant-loop-ship-2
invariant-loop-ship-2 l = record {
  ships : l.denied.ships ≡ l.flat.ships;
  slots : l.denied.slots ≡ l.flat.slots;
  small : l.spare ≤ 40_000_000_000_000;
  sum : greatest_sum l.flat l.denied + l.spare ≤ l.best;
  explains : Explains (edge_of l.c) l.room l.denied;
}
