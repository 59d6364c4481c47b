use Rattle.hw_app.proofs.Reports.{one_flat_text}
use Rattle.hw_app.proofs.report_laws.one_flat_text.Goals as goal

pub returns : goal.returns
returns c = one_flat_text
