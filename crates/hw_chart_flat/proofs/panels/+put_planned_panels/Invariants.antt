use Rattle.hw_chart_flat.proofs.panels.+put_planned_panels.Given as goal

abbrev pub decreases-put_planned_panels : goal.decreases-put_planned_panels
decreases-put_planned_panels g l = l.fleets.left
