use Rattle.std.proofs.Common.{refl}
use Rattle.std.specs.Fmt.{digits}
use Rattle.hw_audit.proofs.carried.carried_rows.Goals as goal

pub returns : goal.returns
unfolding digits
returns c = record { no_event = refl; one_sailed = refl; one_delayed = refl; delayed_before = refl }
