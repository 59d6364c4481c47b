use Rattle.hw_cert_join.proofs.forks.fork_lemmas.Goals.{in-Fork+in_ok-enter-in-Fork, in-Part+in-Some+in_ok-leave-in-Some}
use Rattle.hw_cert_join.proofs.forks.fork_lemmas.Goals as goal

pub loop-node-preserved : goal.loop-node-preserved
loop-node-preserved c = elim c.match-node.branch [ in-Fork+in_ok-enter-in-Fork w ↦ rw w.climb-is w.in_ok-enter-in-Fork.ensures | in-Part+in-Some+in_ok-leave-in-Some w ↦ rw w.climb-is w.in_ok-leave-in-Some.ensures ]
