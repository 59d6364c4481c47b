use Rattle.hw_port_windows.proofs.Runs.{longest_law}
use Rattle.hw_port_windows.proofs.laws.runs_are_longest.Goals as goal

pub returns : goal.returns
returns c = longest_law
