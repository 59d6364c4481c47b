use Rattle.std.proofs.Common.{◌≡◌, rules}
use Rattle.hw_desk.proofs.Written.{puts_on}
use Rattle.hw_chart_port.specs.Titles.{ship_title}
use Rattle.hw_chart_port.proofs.title.put_row_title.Goals as goal

pub returns : goal.returns
unfolding ship_title
returns g c =
    let name : c.deref.result.now ≡ c.args.ship.now.name = search rules in
    puts_on (rw (name, c.from.ensures) at c.put_pieces.ensures) c.put_course_title.ensures
