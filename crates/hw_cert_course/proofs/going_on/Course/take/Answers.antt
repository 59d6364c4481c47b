use Rattle.std.proofs.Common.{◌+◌, arith, subst, sym}
use Rattle.hw_cert_course.specs.Courses.{CourseStopsFor}
use Rattle.hw_cert_course.specs.declared.stop.CourseStop.{CourseStop}
use Rattle.hw_cert_course.proofs.Handed.{not_taken}
use Rattle.hw_cert_course.proofs.going_on.Course.take.Goals as goal

pub returns : goal.returns
returns c = subst (λ (stop : CourseStop). CourseStopsFor c.args.self.flat.now c.args.self.lines.items stop) (sym c.stop_as.ensures) (not_taken c.args.line (c.len.result + 2) c.in-Err.stop c.requires.stands c.requires.fits c.requires.news (omega (arith, c.len.ensures)) c.in-Err.ensures.refused)
