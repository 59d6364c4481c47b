use Rattle.hw_chart_flat.proofs.panels.+put_unplanned_panels.Given as goal

abbrev pub decreases-put_unplanned_panels : goal.decreases-put_unplanned_panels
decreases-put_unplanned_panels g l = l.fleets.left
