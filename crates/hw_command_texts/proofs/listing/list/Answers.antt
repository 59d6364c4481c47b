use Rattle.std.proofs.Common.{refl}
use Rattle.hw_command.proofs.Endings.{sent_whole, sent_short}
use Rattle.hw_command_texts.proofs.listing.list.Goals as goal

pub returns-in-Ok : goal.returns-in-Ok
returns-in-Ok g c = sent_whole _ refl c.in-Ok.ensures.ok c.in-Ok.ensures.kept

pub returns-in-Err : goal.returns-in-Err
returns-in-Err g c = sent_short _ refl c.in-Err.ensures.err c.in-Err.ensures.cause
