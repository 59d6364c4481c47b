use Rattle.std.proofs.Common.{arith}
use Rattle.hw_chart_calendar.proofs.Onward.{mark_inside}
use Rattle.hw_chart_calendar.proofs.grid.mark_at.Goals as goal

pub overflow_mul-result : goal.overflow_mul-result
overflow_mul-result c =
    let few = c.midnight-midnight.ensures.few in
    let small = c.requires.small in
    let inside = mark_inside _ c.args.axis.total c.args.axis.step c.args.mark c.requires.some c.requires.first c.requires.last in
    let high = inside.high in
    grind (arith, few, small, high)
