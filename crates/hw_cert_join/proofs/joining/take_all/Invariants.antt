use Rattle.std.proofs.Common.{take}
use Rattle.hw_cert_join.specs.Joining.{TakesOverEach}
use Rattle.hw_cert_join.proofs.joining.take_all.Given as goal

abbrev pub invariant-loop-cert : goal.invariant-loop-cert
invariant-loop-cert l = TakesOverEach l.fn.course l.junction.course (take l.cert-index l.certs)
