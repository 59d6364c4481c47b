use Rattle.hw_desk.proofs.Written.{puts_on, puts_nothing}
use Rattle.hw_flat_programme.specs.Texts.{lp_text}
use Rattle.hw_flat_programme.proofs.programme.put_model.Goals as goal

pub returns : goal.returns
unfolding lp_text
returns g c = puts_on c.put.ensures.puts (puts_on c.put_objective.ensures (puts_on c.put-2.ensures.puts (puts_on c.put_rows.ensures (puts_on c.put-3.ensures.puts (puts_on c.put_names.ensures (puts_on c.put-4.ensures.puts (puts_nothing _)))))))
