use Rattle.hw_repair_text.proofs.Told.{sums_are_cargo_law}
use Rattle.hw_repair_text.proofs.laws.sums_are_cargo.Goals as goal

pub returns : goal.returns
returns c = sums_are_cargo_law
