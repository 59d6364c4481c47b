use Rattle.hw_port_windows.proofs.Told.{lines_law}
use Rattle.hw_port_windows.proofs.laws.lines_are_true.Goals as goal

pub returns : goal.returns
returns c = lines_law
