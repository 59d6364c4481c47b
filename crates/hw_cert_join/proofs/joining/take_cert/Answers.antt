use Rattle.std.proofs.Common.{sym, subst}
use Rattle.std.proofs.Math.ListN.{drop_of_length-le}
use Rattle.hw_cert_course.specs.declared.going_on.Course.{Course}
use Rattle.hw_cert_course.specs.Courses.{ExtendsBy}
use Rattle.hw_cert_course.proofs.Extended.{extends_self, stops_after}
use Rattle.hw_cert_course.proofs.Starting.{next_line}
use Rattle.hw_cert_join.proofs.Covered.{cert_end, cert_next, cert_start}
use Rattle.hw_cert_join.proofs.joining.take_cert.Goals as goal

pub loop-line-init : goal.loop-line-init
loop-line-init c = cert_start c.args.cert.now (subst (λ (course : Course). ExtendsBy c.args.junction.course course) (sym c.turned-junction.ensures) (extends_self c.requires.stands))

pub returns-in-Err : goal.returns-in-Err
returns-in-Err c = stops_after c.in-Err.stop c.loop-line.invariant.extends c.in-Err.ensures

pub loop-line-preserved : goal.loop-line-preserved
loop-line-preserved c = cert_next c.loop-line.invariant (next_line c.args.cert.now c.loop-line.line-index c.line-item.result c.loop-line-test.true c.line-item.is) c.in-Ok.ensures

pub returns : goal.returns
returns c = cert_end c.loop-line.invariant (drop_of_length-le c.args.cert.now c.loop-line-test.false)
