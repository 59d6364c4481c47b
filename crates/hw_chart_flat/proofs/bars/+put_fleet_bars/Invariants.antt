use Rattle.hw_chart_flat.proofs.bars.+put_fleet_bars.Given as goal

abbrev pub decreases-put_fleet_bars : goal.decreases-put_fleet_bars
decreases-put_fleet_bars g l = l.fleets.left
