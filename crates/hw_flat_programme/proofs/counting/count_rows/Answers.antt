use Rattle.std.proofs.Common.{ap, arith, length-append}
use Rattle.hw_model.specs.declared.shape.Shape.{Shape}
use Rattle.hw_flat_programme.specs.Rows.{rules_rows, ship_rows}
use Rattle.hw_flat_programme.proofs.Empty.{length-ship_rows}
use Rattle.hw_flat_programme.proofs.counting.count_rows.Goals as goal

pub returns : goal.returns
returns c = record {
  value = omega (arith, length-append (ship_rows c.args.flat.now 0 c.args.flat.now.ships) (rules_rows c.args.flat.now c.args.flat.now.rules), length-ship_rows c.args.flat.now 0 c.args.flat.now.ships, rw (c.rules.ensures.value, c.new-apart.ensures) at c.count_rules.ensures.value, ap (λ (s : Shape). s.ships) c.shape.ensures.value);
  few = omega (arith, c.count_rules.ensures.small, c.shape.ensures.fits.few_ships);
}
