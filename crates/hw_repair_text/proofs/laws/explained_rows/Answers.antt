use Rattle.std.proofs.Common.{refl}
use Rattle.std.specs.Fmt.{digits}
use Rattle.hw_repair_text.specs.Lines.{number_moved, number_stands, number_change, total_line}
use Rattle.hw_repair_text.proofs.laws.explained_rows.Goals as goal

pub returns : goal.returns
unfolding digits number_moved number_stands number_change total_line
returns c = record {
  one_moved = refl;
  none_moved = refl;
  sails_after_all = refl;
  no_value = refl;
}
