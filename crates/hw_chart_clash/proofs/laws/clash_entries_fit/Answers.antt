use Rattle.hw_chart_clash.proofs.Told.{clash_entries_fit_law}
use Rattle.hw_chart_clash.proofs.laws.clash_entries_fit.Goals as goal

pub returns : goal.returns
returns c = clash_entries_fit_law
