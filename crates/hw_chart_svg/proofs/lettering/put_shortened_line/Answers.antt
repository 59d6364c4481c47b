use Rattle.hw_desk.proofs.Written.{puts_on, puts_nothing}
use Rattle.hw_chart_svg.proofs.lettering.put_shortened_line.Goals as goal

pub returns : goal.returns
returns g c = puts_on c.put_text_begin.ensures (puts_on c.put.ensures.puts (puts_on c.put_name.ensures (puts_on c.put-2.ensures.puts (puts_on c.put_shortened.ensures (puts_on c.put-3.ensures.puts (puts_nothing _))))))
