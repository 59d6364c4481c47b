use Rattle.hw_chart_flat.proofs.fleets.+count.Given as goal

abbrev pub decreases-count : goal.decreases-count
decreases-count l = l.fleets.left
