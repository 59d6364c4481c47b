use Rattle.std.proofs.Common.{◌∙◌, ap, sym}
use Rattle.hw_desk.proofs.Written.{puts_on, puts_same, puts_nothing}
use Rattle.hw_chart_port.specs.Titles.{course_title, load_title, time_title}
use Rattle.hw_chart_port.proofs.title.put_course_title.Goals as goal

pub returns-in-Sails : goal.returns-in-Sails
unfolding time_title load_title
returns-in-Sails g c =
    let says = sym c.course.ensures.value ∙ c.in-Sails.is in
    let sailing = c.sailing_of-sailing.ensures in
    let way = rw c.by_direction.ensures at c.put-in-Sails.ensures.puts in
    let time = rw (c.from.ensures, sailing) at c.put_pieces.ensures in
    let load = rw (c.from-in-Sails.ensures, c.waypoint-by.ensures, sailing) at c.put_pieces-in-Sails.ensures in
    puts_same _ (ap (course_title c.args.chart.now c.args.number c.args.ship.now) says) (puts_on way (puts_on time (puts_on load (puts_nothing _))))
