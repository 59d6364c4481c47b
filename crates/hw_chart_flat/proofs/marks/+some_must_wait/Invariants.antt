use Rattle.std.proofs.Common.{length}
use Rattle.hw_chart_flat.proofs.marks.+some_must_wait.Given as goal

abbrev pub decreases-some_must_wait : goal.decreases-some_must_wait
decreases-some_must_wait l = length l.rules.now
