use Rattle.std.proofs.Common.{refl}
use Rattle.tidewise.proofs.laws.version_rows.Goals as goal

pub returns : goal.returns
returns c = record {
  of_the_repository = refl;
  unproved = refl;
  proved = refl;
}
