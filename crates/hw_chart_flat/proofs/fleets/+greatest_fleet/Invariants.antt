use Rattle.std.proofs.Common.{length}
use Rattle.hw_chart_flat.proofs.fleets.+greatest_fleet.Given as goal

abbrev pub decreases-greatest_fleet : goal.decreases-greatest_fleet
decreases-greatest_fleet l = length l.later.now
