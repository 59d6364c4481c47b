use Rattle.std.proofs.Common.{ℕ, ◌<◌}
use Rattle.hw_goal.specs.Kept.{top_at}
use Rattle.hw_goal.specs.Calm.{CalmAt}
use Rattle.hw_goal.proofs.cutting.goal_cut.Given as goal

abbrev pub invariant-loop-ship : goal.invariant-loop-ship
invariant-loop-ship l = (u : ℕ) → u < l.ship → CalmAt l.flat l.best l.figures.sum u (top_at l.figures.tops.items u)
