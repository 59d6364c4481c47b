use Rattle.hw_flat_laws.proofs.Setting as computed
use Rattle.hw_flat_laws.proofs.worked.setting_rows.Goals as goal

pub returns : goal.returns
returns c = computed.rows
