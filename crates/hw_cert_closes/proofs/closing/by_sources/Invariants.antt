use Rattle.hw_cert_closes.specs.Narrowings.{IsUnderWay}
use Rattle.hw_cert_closes.proofs.closing.by_sources.Given as goal

abbrev pub invariant-loop-source : goal.invariant-loop-source
invariant-loop-source l = IsUnderWay l.ground.flat.now l.narrowing
