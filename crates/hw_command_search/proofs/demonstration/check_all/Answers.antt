use Rattle.std.proofs.Common.{◌<◌, length, arith}
use Rattle.hw_cert_course.proofs.Starting.{next_line, next_fits}
use Rattle.hw_command_search.proofs.Demonstrated.{can_take, next_plain, one_taken}
use Rattle.hw_command_search.proofs.demonstration.check_all.Goals as goal

pub check_one-requires-clause-valid : goal.check_one-requires-clause-valid
check_one-requires-clause-valid c =
    let lt : c.loop-line.line-index < length c.args.lines.now = omega arith in
    can_take c.loop-line.invariant (next_line c.args.lines.now c.loop-line.line-index c.line-item.result lt c.line-item.is) (next_fits c.args.flat.now c.args.lines.now c.loop-line.line-index c.line-item.result c.requires.fit lt c.line-item.is) (next_plain c.args.lines.now c.loop-line.line-index c.line-item.result c.requires.plain lt c.line-item.is)

pub loop-line-preserved : goal.loop-line-preserved
loop-line-preserved c =
    let lt : c.loop-line.line-index < length c.args.lines.now = omega arith in
    one_taken c.loop-line.invariant (next_line c.args.lines.now c.loop-line.line-index c.line-item.result lt c.line-item.is) c.in_ok-checker-2.ensures.problem (c.in_ok-checker-2.ensures.followed c.loop-line.invariant.before c.loop-line.invariant.follows)
