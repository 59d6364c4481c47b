use Rattle.hw_chart_flat.proofs.marks.+some_is_held_whole.Given as goal

abbrev pub decreases-some_is_held_whole : goal.decreases-some_is_held_whole
decreases-some_is_held_whole l = l.fleets.left
