use Rattle.hw_tide.proofs.ToldTides.{tide_told_law}
use Rattle.hw_tide.proofs.laws.tide_told.Goals as goal

pub returns : goal.returns
returns c = tide_told_law
