use Rattle.hw_desk.proofs.Written.{puts_on, puts_nothing}
use Rattle.hw_flat_programme.specs.Texts.{opb_notes}
use Rattle.hw_flat_programme.proofs.programme.put_notes.Goals as goal

pub returns : goal.returns
unfolding opb_notes
returns g c = puts_on c.put.ensures.puts (puts_on (rw c.from.ensures at c.put_number.ensures.puts) (puts_on c.put-2.ensures.puts (puts_on c.put_number-2.ensures.puts (puts_on c.put-3.ensures.puts (puts_nothing _)))))
