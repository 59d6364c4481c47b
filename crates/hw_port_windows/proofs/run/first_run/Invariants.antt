use Rattle.std.proofs.Common.{◌+◌}
use Rattle.hw_port_windows.specs.Windows.{statuses}
use Rattle.hw_port_windows.proofs.Runs.{GoesOn}
use Rattle.hw_port_windows.proofs.run.first_run.Given as goal

abbrev pub invariant-loop-slot : goal.invariant-loop-slot
invariant-loop-slot l = GoesOn (statuses l.asked) (l.span.last + 1) l.span.first l.slot
