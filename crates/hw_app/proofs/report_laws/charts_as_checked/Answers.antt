use Rattle.hw_app.proofs.Reports.{charts_as_checked}
use Rattle.hw_app.proofs.report_laws.charts_as_checked.Goals as goal

pub returns : goal.returns
returns c = charts_as_checked
