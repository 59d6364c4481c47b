use Rattle.std.proofs.Common.{◌-◌}
use Rattle.hw_chart_waters.proofs.stand.+end_of_stand.Given as goal

abbrev pub decreases-end_of_stand : goal.decreases-end_of_stand
decreases-end_of_stand l = l.column.now.rows - l.row
