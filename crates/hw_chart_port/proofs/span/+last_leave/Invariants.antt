use Rattle.std.proofs.Common.{length}
use Rattle.hw_chart_port.proofs.span.+last_leave.Given as goal

abbrev pub decreases-last_leave : goal.decreases-last_leave
decreases-last_leave l = length l.channel.now
