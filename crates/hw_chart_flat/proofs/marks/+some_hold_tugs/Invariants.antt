use Rattle.hw_chart_flat.proofs.marks.+some_hold_tugs.Given as goal

abbrev pub decreases-some_hold_tugs : goal.decreases-some_hold_tugs
decreases-some_hold_tugs l = l.fleets.left
