use Rattle.hw_command_clash.specs.Found.{lines_found, report_found}
use Rattle.hw_command_clash.proofs.Sent.{sends_none, sends_whole, sends_short}
use Rattle.hw_command_clash.proofs.sending.send_found.Goals as goal

pub returns-in-Ok : goal.returns-in-Ok
returns-in-Ok g c = sends_whole c.args.proof.now (lines_found c.args.clashed.now) c.in-Some.lines.now (report_found c.args.budget c.args.clashed.now) _ c.in-Some.ensures c.found_report.ensures.value c.in-Ok.ensures c.finish.ensures

pub returns-in-Err : goal.returns-in-Err
returns-in-Err g c = sends_short c.args.proof.now (lines_found c.args.clashed.now) c.in-Some.lines.now (report_found c.args.budget c.args.clashed.now) c.in-Some.ensures c.in-Err.ensures

pub returns-in-None : goal.returns-in-None
returns-in-None g c = sends_none c.args.proof.now (lines_found c.args.clashed.now) (report_found c.args.budget c.args.clashed.now) _ c.in-None.ensures c.found_report-in-None.ensures.value c.finish-in-None.ensures
