use Rattle.std.proofs.Common.{◌∙◌, ap, sym}
use Rattle.hw_desk.proofs.Written.{puts_on, puts_same, puts_nothing}
use Rattle.hw_chart_port.specs.Rows.{row_right}
use Rattle.hw_chart_port.proofs.row.put_course.Goals as goal

pub returns-in-Sails : goal.returns-in-Sails
returns-in-Sails g c =
    let says = sym c.course.ensures.value ∙ c.in-Sails.is in
    let pin = rw (c.by_direction.ensures, c.span.ensures.value) at c.put_pin.ensures in
    let figures = rw c.sailing_of-sailing.ensures at c.put_figures.ensures in
    puts_same _ (ap (row_right c.args.chart.now c.args.number c.args.ship.now c.args.y) says) (puts_on pin (puts_on c.put_bars.ensures (puts_on figures (puts_nothing _))))
