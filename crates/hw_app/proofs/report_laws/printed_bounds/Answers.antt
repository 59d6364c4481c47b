use Rattle.hw_app.proofs.Reports.{printed_bounds}
use Rattle.hw_app.proofs.report_laws.printed_bounds.Goals as goal

pub returns : goal.returns
returns c = printed_bounds
