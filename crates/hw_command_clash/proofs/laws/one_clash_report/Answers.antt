use Rattle.hw_command_clash.proofs.Decided.{one_clash_report_law}
use Rattle.hw_command_clash.proofs.laws.one_clash_report.Goals as goal

pub returns : goal.returns
returns c = one_clash_report_law
