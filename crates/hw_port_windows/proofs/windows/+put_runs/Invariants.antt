use Rattle.std.proofs.Common.{◌-◌}
use Rattle.hw_port_windows.proofs.windows.+put_runs.Given as goal

abbrev pub decreases-put_runs : goal.decreases-put_runs
decreases-put_runs g l = l.span.last - l.span.first
