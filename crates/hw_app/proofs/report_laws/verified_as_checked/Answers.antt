use Rattle.hw_app.proofs.Reports.{verified_as_checked}
use Rattle.hw_app.proofs.report_laws.verified_as_checked.Goals as goal

pub returns : goal.returns
returns c = verified_as_checked
