use Rattle.hw_chart_laws.proofs.PortAlike.{same_drafts}
use Rattle.hw_chart_laws.proofs.laws.port_rows_read_back.Goals as goal

pub returns : goal.returns
returns c = same_drafts
