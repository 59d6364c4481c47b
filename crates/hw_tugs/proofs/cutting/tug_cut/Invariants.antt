use Rattle.std.proofs.Common.{take}
use Rattle.std.specs.Prelude.{All}
use Rattle.hw_tugs.specs.Over.{IsCalm}
use Rattle.hw_tugs.proofs.cutting.tug_cut.Given as goal

abbrev pub invariant-loop-job : goal.invariant-loop-job
invariant-loop-job l = All (IsCalm l.load l.fleets l.room) (take l.job-index l.jobs)
