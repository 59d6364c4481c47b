use Rattle.std.proofs.Common.{◌≡◌, ◌-◌, arith}
use Rattle.hw_desk.proofs.Written.{puts_on, puts_nothing}
use Rattle.hw_chart.proofs.row.put_moves_window.Goals as goal

pub returns : goal.returns
returns g c =
    let from_first : c.args.slots - 0 ≡ c.args.slots = omega arith in
    puts_on (rw (c.plot.ensures, c.from.ensures) at c.put_window_begin.ensures) (puts_on (rw from_first at c.put_steps.ensures) (puts_on c.put_svg_end.ensures (puts_nothing _)))
