use Rattle.hw_app.proofs.OwnReport.{own_report}
use Rattle.hw_app.proofs.search_laws.own_report.Goals as goal

pub returns : goal.returns
returns c = own_report
