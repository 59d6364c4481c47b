use Rattle.hw_chart_repair.proofs.Told.{ghosts_are_moved_law}
use Rattle.hw_chart_repair.proofs.laws.ghosts_are_moved.Goals as goal

pub returns : goal.returns
returns c = ghosts_are_moved_law
