use Rattle.std.proofs.Common.{refl}
use Rattle.std.specs.Fmt.{digits}
use Rattle.hw_repair.proofs.laws.written_rows.Goals as goal

pub returns : goal.returns
unfolding digits
returns c = record { no_tug = refl; some_tugs = refl }
