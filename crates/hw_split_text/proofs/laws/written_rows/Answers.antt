use Rattle.std.proofs.Common.{refl}
use Rattle.std.specs.Fmt.{digits}
use Rattle.hw_split_text.proofs.laws.written_rows.Goals as goal

pub returns : goal.returns
unfolding digits
returns c = record {
  one_part = refl;
  three = refl;
}
