use Rattle.std.proofs.Common.{◌<◌, ◌-◌, ℕ}
use Rattle.hw_goal.specs.Kept.{AreKept, SeenAt}
use Rattle.hw_goal.proofs.tops.whole_figures.Given as goal

abbrev pub invariant-loop-ship : goal.invariant-loop-ship
invariant-loop-ship l = record {
  kept : AreKept l.flat l.ship l.figures;
  seen : (u : ℕ) → u < l.ship → SeenAt l.figures u 0 (l.flat.slots - 1);
}
