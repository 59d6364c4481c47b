use Rattle.hw_app.proofs.Reports.{one_certificate_report}
use Rattle.hw_app.proofs.report_laws.one_certificate_report.Goals as goal

pub returns : goal.returns
returns c = one_certificate_report
