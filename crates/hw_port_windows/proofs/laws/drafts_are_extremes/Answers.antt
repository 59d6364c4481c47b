use Rattle.hw_port_windows.proofs.Extremes.{extremes_law}
use Rattle.hw_port_windows.proofs.laws.drafts_are_extremes.Goals as goal

pub returns : goal.returns
returns c = extremes_law
