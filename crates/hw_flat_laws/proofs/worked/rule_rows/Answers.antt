use Rattle.hw_flat_laws.proofs.Rules as computed
use Rattle.hw_flat_laws.proofs.worked.rule_rows.Goals as goal

pub returns : goal.returns
returns c = computed.rows
