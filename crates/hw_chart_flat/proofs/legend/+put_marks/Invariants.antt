use Rattle.std.proofs.Common.{length}
use Rattle.hw_chart_flat.proofs.legend.+put_marks.Given as goal

abbrev pub decreases-put_marks : goal.decreases-put_marks
decreases-put_marks g l = length l.marks.now
