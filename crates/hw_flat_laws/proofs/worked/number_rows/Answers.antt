use Rattle.hw_flat_laws.proofs.Numbers as computed
use Rattle.hw_flat_laws.proofs.worked.number_rows.Goals as goal

pub returns : goal.returns
returns c = computed.rows
