use Rattle.hw_flat_programme.proofs.Found.{lacks, objective}
use Rattle.hw_flat_programme.proofs.laws.objective_is_cargo.Goals as goal

pub returns : goal.returns
returns c = record { greatest = objective; least = lacks }
