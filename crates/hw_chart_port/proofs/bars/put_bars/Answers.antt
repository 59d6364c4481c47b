use Rattle.std.proofs.Common.{◌≡◌, rules}
use Rattle.hw_desk.proofs.Written.{puts_on, puts_nothing}
use Rattle.hw_chart_port.proofs.bars.put_bars.Goals as goal

pub returns : goal.returns
returns g c =
    let berths : c.deref.result.now ≡ c.args.chart.now.port.berths = search rules in
    let after : c.deref-2.result.now ≡ c.args.chart.now.port.after = search rules in
    let route : c.deref-3.result.now ≡ c.args.ship.now.route = search rules in
    let begin = rw c.span.ensures.value at c.put_bars_begin.ensures in
    let clearings = rw berths at c.put_clearings.ensures in
    let stays = rw after at c.put_stays.ensures in
    let voyage = rw (c.by_direction.ensures, c.from-from.ensures, c.from-last.ensures, c.last_pass.ensures.value, route) at c.put_bar.ensures in
    puts_on begin (puts_on clearings (puts_on stays (puts_on voyage (puts_on c.put_tugs_where.ensures (puts_on c.put_svg_end.ensures (puts_nothing _))))))
