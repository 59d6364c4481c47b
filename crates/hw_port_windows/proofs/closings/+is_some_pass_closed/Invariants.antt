use Rattle.std.proofs.Common.{length}
use Rattle.hw_port_windows.proofs.closings.+is_some_pass_closed.Given as goal

abbrev pub decreases-is_some_pass_closed : goal.decreases-is_some_pass_closed
decreases-is_some_pass_closed l = length l.route.now
