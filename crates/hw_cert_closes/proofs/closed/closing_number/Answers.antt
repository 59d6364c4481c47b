use Rattle.std.proofs.Common.{arith}
use Rattle.hw_cert_closes.proofs.Numbers.{closes_more, counted_next, found_more}
use Rattle.hw_cert_closes.proofs.closed.closing_number.Goals as goal

pub loop-line-preserved : goal.loop-line-preserved
loop-line-preserved c =
    let counted = counted_next c.args.lines.now c.loop-line.line-index c.line-item.result c.loop-line.number c.saturating_add-number.result c.loop-line-test.true c.line-item.is c.loop-line.invariant.counted (omega (arith, c.saturating_add-number.ensures, c.clause_lines.ensures)) in
    record {
      closes = closes_more c.args.room.now c.args.lines.now c.loop-line.line-index c.line-item.result c.loop-line-test.true c.line-item.is c.loop-line.invariant.closes c.found_next-found.ensures.closes;
      counted = counted;
      last = found_more c.args.room.now c.args.lines.now c.loop-line.line-index c.line-item.result c.args.deleted.now c.loop-line.found c.found_next-found.result c.saturating_add-number.result c.loop-line-test.true c.line-item.is counted c.found_next-found.ensures.number c.loop-line.invariant.last;
    }
