use Rattle.std.proofs.Common.{◌≡◌, rules}
use Rattle.hw_desk.proofs.Written.{puts_on}
use Rattle.hw_chart_port.specs.Rows.{arrow_path}
use Rattle.hw_chart_port.proofs.row.put_left.Goals as goal

pub returns : goal.returns
unfolding arrow_path
returns g c =
    let y = c.from-y.ensures in
    let name : c.deref.result.now ≡ c.args.ship.now.name = search rules in
    let arrow = rw (c.by_direction.ensures, c.by_direction-2.ensures, c.by_direction-3.ensures, y) at c.put_shape.ensures in
    let label = rw (y, name) at c.put_name_line.ensures in
    let number = rw (y, c.from.ensures, c.by_direction-4.ensures, c.from-full.ensures, c.natural_full.ensures) at c.put_line.ensures in
    puts_on arrow (puts_on label number)
