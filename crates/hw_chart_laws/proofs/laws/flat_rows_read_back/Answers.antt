use Rattle.hw_chart_laws.proofs.FlatAlike.{same_classes}
use Rattle.hw_chart_laws.proofs.laws.flat_rows_read_back.Goals as goal

pub returns : goal.returns
returns c = same_classes
