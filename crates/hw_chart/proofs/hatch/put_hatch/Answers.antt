use Rattle.hw_chart.specs.Hatches.{hatch}
use Rattle.hw_chart.proofs.hatch.put_hatch.Goals as goal

pub returns : goal.returns
unfolding hatch
returns g c = c.put.ensures.puts
