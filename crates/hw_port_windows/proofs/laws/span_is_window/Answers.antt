use Rattle.hw_port_windows.proofs.Told.{window_law}
use Rattle.hw_port_windows.proofs.laws.span_is_window.Goals as goal

pub returns : goal.returns
returns c = window_law
