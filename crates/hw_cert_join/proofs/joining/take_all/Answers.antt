use Rattle.std.proofs.Common.{subst, sym}
use Rattle.hw_cert_course.specs.declared.going_on.Course.{Course}
use Rattle.hw_cert_course.specs.Courses.{ExtendsBy}
use Rattle.hw_cert_course.proofs.Extended.{extends_self, stops_after}
use Rattle.hw_cert_join.proofs.Covered.{certs_next, certs_start}
use Rattle.hw_cert_join.proofs.joining.take_all.Goals as goal

pub loop-cert-init : goal.loop-cert-init
loop-cert-init c = certs_start (subst (λ (course : Course). ExtendsBy c.args.course course) (sym c.none_joined-junction.ensures) (extends_self c.requires.stands))

pub returns-in-Err : goal.returns-in-Err
returns-in-Err c = stops_after c.in-Err.stop c.loop-cert.invariant.extends c.in-Err.ensures

pub loop-cert-preserved : goal.loop-cert-preserved
loop-cert-preserved c =
    certs_next c.args.certs.now c.loop-cert.cert-index c.cert-item.result c.loop-cert-test.true c.loop-cert.invariant (rw (← c.cert-item.is, ← c.deref.ensures.value) c.in-Ok.ensures)
