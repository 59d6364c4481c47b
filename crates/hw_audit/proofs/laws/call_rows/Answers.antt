use Rattle.std.proofs.Common.{refl}
use Rattle.hw_audit.proofs.laws.call_rows.Goals as goal

pub returns : goal.returns
returns c = record {
  as_planned = refl;
  ship_closed = refl;
  bar_closed = refl;
  port_closed_and_late = refl;
  late = refl;
  both_late = refl;
  taken = refl;
}
