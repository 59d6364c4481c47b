use Rattle.hw_app.proofs.Reports.{one_clash_report}
use Rattle.hw_app.proofs.report_laws.one_clash_report.Goals as goal

pub returns : goal.returns
returns c = one_clash_report
