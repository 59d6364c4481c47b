use Rattle.std.proofs.Common.{length, ◌<◌, arith}
use Rattle.hw_desk.proofs.Written.{puts_on, puts_same}
use Rattle.hw_cert.proofs.LinesSent.{ended_next}
use Rattle.hw_cert.proofs.sending.put_lines.Goals as goal

pub loop-line-preserved : goal.loop-line-preserved
loop-line-preserved g c =
    let lt : c.loop-line.line-index < length c.args.lines.now = omega arith in
    puts_same _ (ended_next c.args.lines.now c.loop-line.line-index c.line-item.result lt c.line-item.is) (puts_on c.loop-line.invariant (puts_on c.put_line.ensures.puts c.put.ensures.puts))
