use Rattle.std.proofs.Common.{◌≡◌, rules}
use Rattle.hw_desk.proofs.Written.{puts_on, puts_nothing}
use Rattle.hw_chart_port.specs.Rests.{rest_of_picture}
use Rattle.hw_chart_port.proofs.rest.put_rest.Goals as goal

pub returns : goal.returns
unfolding rest_of_picture
returns g c =
    let legend = puts_on c.put_port_legend.ensures (rw c.parts-parts.ensures.parts at c.put_hatch_where.ensures) in
    let waypoints : c.deref.result.now ≡ c.args.chart.now.port.waypoints = search rules in
    let strips = rw (c.heights_of.ensures, c.tide.ensures, waypoints) at c.put_strips.ensures in
    let sections : c.deref-2.result.now ≡ c.args.chart.now.port.sections = search rules in
    let lanes = rw sections at c.put_lanes.ensures in
    let panels = puts_on strips (puts_on c.put_columns_where.ensures (puts_on c.put_ships.ensures (puts_on lanes (puts_on c.put_fleet.ensures (puts_nothing _))))) in
    let line = rw (c.horizon.ensures.value, c.span.ensures.value, c.bottom_of.ensures) at c.put_span_end.ensures in
    puts_on legend (puts_on panels (puts_on c.put_times.ensures (puts_on line (puts_nothing _))))
