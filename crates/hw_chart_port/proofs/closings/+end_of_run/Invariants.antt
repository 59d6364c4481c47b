use Rattle.std.proofs.Common.{◌-◌}
use Rattle.hw_chart_port.proofs.closings.+end_of_run.Given as goal

abbrev pub decreases-end_of_run : goal.decreases-end_of_run
decreases-end_of_run l = l.end - l.slot
