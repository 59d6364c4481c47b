use Rattle.hw_desk.proofs.Written.{puts_on, puts_nothing}
use Rattle.hw_chart_clash.specs.Pictures.{clash_picture}
use Rattle.hw_chart_clash.proofs.picture.put_clash_picture.Goals as goal

pub returns : goal.returns
unfolding clash_picture
returns g c = puts_on c.put_clash_head.ensures (puts_on c.put_clash_rest.ensures (puts_on c.put_clash_end.ensures (puts_nothing _)))
