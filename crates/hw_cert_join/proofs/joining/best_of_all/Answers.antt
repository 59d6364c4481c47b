use Rattle.hw_cert_join.proofs.Bests.{certs_end, certs_next}
use Rattle.hw_cert_join.proofs.joining.best_of_all.Goals as goal

pub loop-cert-preserved : goal.loop-cert-preserved
loop-cert-preserved c = record {
  listed = c.best_of-best.ensures.listed;
  best = certs_next c.args.flat.now _ _ c.args.certs.now c.loop-cert.cert-index c.cert-item.result c.loop-cert-test.true c.loop-cert.invariant.best c.best_of-best.ensures.before (rw (← c.cert-item.is, ← c.deref.ensures.value) c.best_of-best.ensures.lines);
}

pub returns-clause-best : goal.returns-clause-best
returns-clause-best c = certs_end c.args.flat.now _ c.args.certs.now c.loop-cert.cert-index c.loop-cert-test.false c.loop-cert.invariant.best
