use Rattle.std.proofs.Common.{◌<◌, length, arith}
use Rattle.hw_cert_course.proofs.Handed.{along_next, along_start, along_stops}
use Rattle.hw_cert_course.proofs.Starting.{next_line}
use Rattle.hw_cert_course.proofs.handing.hand_all.Goals as goal

pub loop-line-init : goal.loop-line-init
loop-line-init c = along_start c.args.found.now c.requires.stands

pub returns-in-Err : goal.returns-in-Err
returns-in-Err c = along_stops c.in-Err.stop c.loop-line.invariant c.in-Err.ensures

pub loop-line-preserved : goal.loop-line-preserved
loop-line-preserved c =
    let lt : c.loop-line.line-index < length c.args.found.now = omega arith in
    along_next c.loop-line.invariant (next_line c.args.found.now c.loop-line.line-index c.line-item.result lt c.line-item.is) c.in-Ok.ensures
