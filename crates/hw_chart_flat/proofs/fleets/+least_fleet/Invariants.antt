use Rattle.std.proofs.Common.{length}
use Rattle.hw_chart_flat.proofs.fleets.+least_fleet.Given as goal

abbrev pub decreases-least_fleet : goal.decreases-least_fleet
decreases-least_fleet l = length l.later.now
