use Rattle.std.proofs.Common.{append-nil}
use Rattle.hw_desk.proofs.Written.{puts_on, puts_same}
use Rattle.hw_report.proofs.lines.put_unfinished.Goals as goal

pub returns : goal.returns
returns g c = puts_on c.put.ensures.puts (puts_on (rw c.from.ensures at c.put_number.ensures.puts) (puts_on c.put-2.ensures.puts (puts_same _ (append-nil _) c.put_so_far.ensures)))
