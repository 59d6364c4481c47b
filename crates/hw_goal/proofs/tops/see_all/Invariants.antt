use Rattle.hw_goal.specs.Kept.{AreKept, SeenIn}
use Rattle.hw_goal.proofs.tops.see_all.Given as goal

abbrev pub invariant-loop-ship : goal.invariant-loop-ship
invariant-loop-ship l = record {
  kept : AreKept l.flat l.flat.ships l.figures;
  seen : SeenIn l.room l.ship l.figures;
}
