use Rattle.hw_desk.proofs.Written.{puts_on, puts_nothing}
use Rattle.hw_chart_repair.specs.Heads.{repair_picture_head}
use Rattle.hw_chart_repair.proofs.heading.put_repair_head.Goals as goal

pub returns : goal.returns
unfolding repair_picture_head
returns g c = puts_on (rw c.repair_title-title.ensures at c.put_picture_begin.ensures) (puts_on c.put_style.ensures (puts_on c.put_marks_style.ensures (puts_on c.put_ground.ensures (puts_on c.put_badge.ensures (puts_on (rw c.repair_title-title.ensures at c.put_head_lines.ensures) (puts_nothing _))))))
