use Rattle.std.proofs.Common.{length}
use Rattle.hw_chart_port.proofs.marks.+awaits_berth.Given as goal

abbrev pub decreases-awaits_berth : goal.decreases-awaits_berth
decreases-awaits_berth l = length l.pairs.now
