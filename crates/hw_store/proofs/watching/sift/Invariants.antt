use Rattle.hw_store.specs.Watches.{MarksDue}
use Rattle.hw_store.proofs.Sifting.{Sifting}
use Rattle.hw_store.proofs.Standing.{Leaving}
use Rattle.hw_store.proofs.watching.sift.Given as goal

abbrev pub invariant-loop-at : goal.invariant-loop-at
invariant-loop-at l = MarksDue l.fn.watched l.watched × Sifting l.fn.watched.ships l.fn.watched.slots l.bucket l.cutting l.watched.watches l.fn.places l.places l.at l.kept × Leaving l.bucket l.watched.stands l.fn.places l.places l.at l.kept
