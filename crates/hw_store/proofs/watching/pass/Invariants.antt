use Rattle.hw_store.specs.Watches.{KeepsDue, DropsSome}
use Rattle.hw_store.proofs.Ones.{Passing}
use Rattle.hw_store.proofs.watching.pass.Given as goal

abbrev pub invariant-loop-at : goal.invariant-loop-at
invariant-loop-at l = KeepsDue l.watches l.due.items l.due.cap × DropsSome l.fn.watches l.watches × Passing l.room l.watches l.fn.ones l.ones l.at l.kept
