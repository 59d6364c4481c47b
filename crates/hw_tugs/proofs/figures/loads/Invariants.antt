use Rattle.std.proofs.Common.{◌≡◌, length}
use Rattle.hw_tugs.specs.Held.{IsForced}
use Rattle.hw_tugs.proofs.figures.loads.Given as goal

abbrev pub invariant-loop-slot : goal.invariant-loop-slot
invariant-loop-slot l = record {
  size : length l.load.items ≡ l.slot;
  forced : IsForced l.jobs l.room l.load.items;
}
