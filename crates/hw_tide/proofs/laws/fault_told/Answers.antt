use Rattle.hw_tide.proofs.ToldFaults.{fault_told_law}
use Rattle.hw_tide.proofs.laws.fault_told.Goals as goal

pub returns : goal.returns
returns c = fault_told_law
