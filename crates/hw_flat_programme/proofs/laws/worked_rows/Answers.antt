use Rattle.std.proofs.Common.{refl}
use Rattle.hw_flat_programme.proofs.laws.worked_rows.Goals as goal

pub returns : goal.returns
returns c = record { two_apart_rows = refl; three_apart_rows = refl; one_waits_rows = refl; three_tugs_rows = refl; four_tugs_rows = refl; fewer_later_rows = refl; more_later_rows = refl; nowhere_rows = refl }
