use Rattle.hw_app.proofs.Reports.{charts_as_verified}
use Rattle.hw_app.proofs.report_laws.charts_as_verified.Goals as goal

pub returns : goal.returns
returns c = charts_as_verified
