use Rattle.std.proofs.Common.{refl}
use Rattle.hw_command.proofs.Endings.{sent_whole, sent_short}
use Rattle.hw_command_chart.proofs.drawing.send.Goals as goal

pub returns-in-Ok : goal.returns-in-Ok
returns-in-Ok g c = sent_whole _ c.status_of_verdict.ensures c.in-Ok.ensures.ok c.in-Ok.ensures.kept

pub returns-in-Err : goal.returns-in-Err
returns-in-Err g c = sent_short _ refl c.in-Err.ensures.err c.in-Err.ensures.cause
