use Rattle.std.proofs.Common.{◌≡◌, length}
use Rattle.hw_tugs.specs.Held.{IsLoad, SeesFirst}
use Rattle.hw_tugs.proofs.figures.Figures.follow.Given as goal

abbrev pub invariant-loop-place : goal.invariant-loop-place
invariant-loop-place l = record {
  size : length l.self.load.items ≡ length l.fn.self.load.items;
  load : IsLoad l.jobs l.self.seen.items l.self.load.items;
  sees : SeesFirst l.place l.room l.jobs l.self.seen.items;
}
