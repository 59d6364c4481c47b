use Rattle.std.proofs.Common.{append-nil}
use Rattle.hw_desk.proofs.Written.{puts_on, puts_nothing}
use Rattle.hw_chart_svg.specs.Numbers.{clock, metres}
use Rattle.hw_chart_port.proofs.figures.put_figures.Goals as goal

pub returns : goal.returns
returns g c =
    let row = c.from-row.ensures in
    let class = c.tight-class.ensures in
    let clearance = c.from-clearance.ensures in
    let time = puts_on (rw (row, append-nil (clock c.args.sailing.time)) at c.put_line.ensures) (rw (row, c.from.ensures) at c.put_line-2.ensures) in
    let allowed = puts_on (rw (class, row, append-nil (metres c.args.sailing.allowed)) at c.put_line-3.ensures) (rw (row, c.waypoint.ensures) at c.put_name_line.ensures) in
    let water = rw (class, row, append-nil (metres c.args.sailing.keel)) at c.put_line-4.ensures in
    let keel = puts_on water (rw (row, clearance) at c.put_line-5.ensures) in
    puts_on time (puts_on c.put_draft.ensures (puts_on allowed (puts_on keel (puts_on c.put_cargo.ensures (puts_nothing _)))))
