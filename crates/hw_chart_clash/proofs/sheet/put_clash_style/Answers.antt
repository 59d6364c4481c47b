use Rattle.hw_chart_clash.specs.Heads.{clash_style}
use Rattle.hw_chart_clash.proofs.sheet.put_clash_style.Goals as goal

pub returns : goal.returns
unfolding clash_style
returns g c = c.put.ensures.puts
