use Rattle.hw_chart_flat.proofs.span.+fleets_end.Given as goal

abbrev pub decreases-fleets_end : goal.decreases-fleets_end
decreases-fleets_end l = l.fleets.left
