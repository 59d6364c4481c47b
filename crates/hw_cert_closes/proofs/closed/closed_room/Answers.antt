use Rattle.hw_cert_closes.proofs.Falsified.{room_closed}
use Rattle.hw_cert_closes.proofs.closed.closed_room.Goals as goal

pub returns : goal.returns
returns c = room_closed
