use Rattle.hw_search_sources.specs.Marks.{ClearWithin}
use Rattle.hw_search_sources.proofs.marking.next_within.Given as goal

abbrev pub invariant-loop-place : goal.invariant-loop-place
invariant-loop-place l = ClearWithin l.marks l.from l.place
