use Rattle.std.proofs.Common.{length}
use Rattle.hw_chart_svg.proofs.name.+width.Given as goal

abbrev pub decreases-width : goal.decreases-width
decreases-width l = length l.text.now
