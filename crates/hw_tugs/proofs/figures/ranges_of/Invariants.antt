use Rattle.std.proofs.Common.{◌≡◌, length}
use Rattle.hw_tugs.specs.Held.{SeesFirst}
use Rattle.hw_tugs.proofs.figures.ranges_of.Given as goal

abbrev pub invariant-loop-job : goal.invariant-loop-job
invariant-loop-job l = record {
  size : length l.seen.items ≡ l.job-index;
  sees : SeesFirst l.job-index l.room l.jobs l.seen.items;
}
