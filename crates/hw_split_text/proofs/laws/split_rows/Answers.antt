use Rattle.std.proofs.Common.{refl}
use Rattle.hw_split_text.proofs.laws.split_rows.Goals as goal

pub returns : goal.returns
returns c = record {
  all = refl;
  three = refl;
  none = refl;
  second = refl;
  fourth = refl;
}
