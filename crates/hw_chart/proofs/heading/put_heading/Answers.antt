use Rattle.hw_desk.proofs.Written.{puts_on, puts_nothing}
use Rattle.hw_chart.proofs.heading.put_heading.Goals as goal

pub returns : goal.returns
returns g c =
    let title = rw c.title-2.ensures at c.put_line.ensures in
    let meaning = rw c.meaning.ensures at c.put_line-2.ensures in
    let lines = puts_on title (puts_on meaning (puts_on c.put_line-3.ensures (puts_nothing _))) in
    puts_on (rw c.title.ensures at c.put_picture_begin.ensures) (puts_on c.put_style.ensures (puts_on c.put_ground.ensures (puts_on c.put_badge.ensures (puts_on lines (puts_nothing _)))))
