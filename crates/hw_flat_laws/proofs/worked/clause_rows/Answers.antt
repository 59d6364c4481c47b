use Rattle.hw_flat_laws.proofs.Clauses as computed
use Rattle.hw_flat_laws.proofs.worked.clause_rows.Goals as goal

pub returns : goal.returns
returns c = computed.rows
