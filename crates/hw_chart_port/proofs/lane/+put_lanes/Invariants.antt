use Rattle.std.proofs.Common.{length}
use Rattle.hw_chart_port.proofs.lane.+put_lanes.Given as goal

abbrev pub decreases-put_lanes : goal.decreases-put_lanes
decreases-put_lanes g l = length l.sections.now
