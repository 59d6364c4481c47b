use Rattle.hw_app.proofs.Reports.{one_chart}
use Rattle.hw_app.proofs.report_laws.one_chart.Goals as goal

pub returns : goal.returns
returns c = one_chart
