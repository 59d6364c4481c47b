use Rattle.hw_desk.proofs.Written.{puts_on, puts_nothing}
use Rattle.hw_chart_clash.proofs.heading.put_clash_begin.Goals as goal

pub returns : goal.returns
returns g c = puts_on c.put_titled_begin.ensures (puts_on c.put_style.ensures (puts_on c.put_clash_style.ensures (puts_on c.put_ground.ensures (puts_on c.put_badge.ensures (puts_nothing _)))))
