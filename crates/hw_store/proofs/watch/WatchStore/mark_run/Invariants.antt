use Rattle.std.proofs.Common.{◌≡◌, length}
use Rattle.hw_store.specs.Watches.{SameClauses, MarksDue, MissedRun}
use Rattle.hw_store.proofs.Sifting.{Ahead}
use Rattle.hw_store.proofs.watch.WatchStore.mark_run.Given as goal

abbrev pub invariant-loop-bucket : goal.invariant-loop-bucket
invariant-loop-bucket l = SameClauses l.fn.self l.self × MarksDue l.fn.self.watched l.self.watched × MissedRun l.first l.bucket l.cutting l.self.watched.watches l.fn.self.lists × Ahead l.bucket l.fn.self.lists l.self.lists × (length l.self.lists ≡ length l.fn.self.lists)
