use Rattle.std.proofs.Common.{drop}
use Rattle.hw_cert_join.proofs.Covered.{CertAlong}
use Rattle.hw_cert_join.proofs.joining.take_cert.Given as goal

abbrev pub invariant-loop-line : goal.invariant-loop-line
invariant-loop-line l = CertAlong l.fn.junction.course l.junction.course l.cert (drop l.line-index l.cert)
