use Rattle.hw_cert_closes.specs.Narrowings.{IsUnderWay}
use Rattle.hw_cert_closes.proofs.closing.by_clauses.Given as goal

abbrev pub invariant-loop-line : goal.invariant-loop-line
invariant-loop-line l = IsUnderWay l.ground.flat.now l.narrowing
