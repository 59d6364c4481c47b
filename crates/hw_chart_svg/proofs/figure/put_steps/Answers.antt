use Rattle.hw_desk.proofs.Written.{puts_on, puts_nothing}
use Rattle.hw_chart_svg.specs.Figures.{steps_begin, steps_end}
use Rattle.hw_chart_svg.proofs.figure.put_steps.Goals as goal

pub returns : goal.returns
unfolding steps_begin steps_end
returns g c =
    let begin = rw c.from.ensures at c.put_pieces.ensures in
    let path = puts_on begin (puts_on c.put_moves.ensures (puts_on c.put_pieces-2.ensures (puts_nothing _))) in
    puts_on c.put_shape_begin.ensures (puts_on path (puts_on c.put.ensures.puts (puts_nothing _)))
