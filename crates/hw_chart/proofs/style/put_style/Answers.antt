use Rattle.hw_chart.specs.Headings.{style}
use Rattle.hw_chart.proofs.style.put_style.Goals as goal

pub returns : goal.returns
unfolding style
returns g c = c.put.ensures.puts
