use Rattle.hw_chart_laws.proofs.Bars.{full_bars}
use Rattle.hw_chart_laws.proofs.laws.full_bars_are_full_drafts.Goals as goal

pub returns : goal.returns
returns c = full_bars
