use Rattle.hw_app.proofs.ResumedReport.{resumed_report}
use Rattle.hw_app.proofs.search_laws.resumed_report.Goals as goal

pub returns : goal.returns
returns c = resumed_report
