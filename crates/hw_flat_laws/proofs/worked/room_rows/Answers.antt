use Rattle.hw_flat_laws.proofs.Rooms as computed
use Rattle.hw_flat_laws.proofs.worked.room_rows.Goals as goal

pub returns : goal.returns
returns c = computed.rows
