use Rattle.hw_desk.proofs.Written.{puts_on, puts_same}
use Rattle.hw_flat_programme.specs.Rows.{rules_rows, ship_rows}
use Rattle.hw_flat_programme.proofs.Onward.{rows_text-append}
use Rattle.hw_flat_programme.proofs.rows.put_rows.Goals as goal

pub returns : goal.returns
returns g c = puts_same _ (rows_text-append c.args.format c.args.flat.now.slots (ship_rows c.args.flat.now 0 c.args.flat.now.ships) (rules_rows c.args.flat.now c.args.flat.now.rules)) (puts_on c.put_ship_rows.ensures (rw (c.rules.ensures.value, c.new-apart.ensures) at c.put_rules.ensures))
