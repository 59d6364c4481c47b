use Rattle.hw_desk.proofs.Written.{puts_on, puts_nothing}
use Rattle.hw_chart_clash.proofs.denied.put_denied_window.Goals as goal

pub returns : goal.returns
returns g c = puts_on (rw (c.plot.ensures, c.slots_shown.ensures.value) at c.put_window_begin.ensures) (puts_on c.put_denied_slots.ensures (puts_on c.put_svg_end.ensures (puts_nothing _)))
