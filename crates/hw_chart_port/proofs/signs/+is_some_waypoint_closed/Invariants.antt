use Rattle.std.proofs.Common.{length}
use Rattle.hw_chart_port.proofs.signs.+is_some_waypoint_closed.Given as goal

abbrev pub decreases-is_some_waypoint_closed : goal.decreases-is_some_waypoint_closed
decreases-is_some_waypoint_closed l = length l.waypoints.now
