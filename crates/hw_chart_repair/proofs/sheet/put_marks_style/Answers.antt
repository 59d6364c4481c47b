use Rattle.hw_chart_repair.specs.Heads.{marks_style}
use Rattle.hw_chart_repair.proofs.sheet.put_marks_style.Goals as goal

pub returns : goal.returns
unfolding marks_style
returns g c = c.put.ensures.puts
