use Rattle.std.proofs.Common.{refl}
use Rattle.hw_report.specs.Seen.{report_seen}
use Rattle.hw_command.proofs.Endings.{sent_whole, sent_short}
use Rattle.hw_command.proofs.finishing.finish.Goals as goal

pub returns-in-Ok : goal.returns-in-Ok
returns-in-Ok g c = sent_whole (report_seen c.args.report.now) c.status_of.ensures c.in-Ok.ensures.ok c.in-Ok.ensures.kept

pub returns-in-Err : goal.returns-in-Err
returns-in-Err g c = sent_short (report_seen c.args.report.now) refl c.in-Err.ensures.err c.in-Err.ensures.cause
