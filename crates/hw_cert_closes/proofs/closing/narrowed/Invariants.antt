use Rattle.hw_cert_closes.specs.Narrowings.{IsUnderWay}
use Rattle.hw_cert_closes.proofs.closing.narrowed.Given as goal

abbrev pub invariant-passes : goal.invariant-passes
invariant-passes l = IsUnderWay l.ground.flat.now l.narrowing
