use Rattle.hw_desk.proofs.Written.{puts_on}
use Rattle.hw_report.proofs.refusals.put_bad_field.Goals as goal

pub returns : goal.returns
returns g c = puts_on c.put.ensures.puts (puts_on c.put_path.ensures (rw c.text.ensures.text at c.put_pieces.ensures))
