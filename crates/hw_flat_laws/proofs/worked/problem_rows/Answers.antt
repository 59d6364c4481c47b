use Rattle.hw_flat_laws.proofs.TextRows as computed
use Rattle.hw_flat_laws.proofs.worked.problem_rows.Goals as goal

pub returns : goal.returns
returns c = computed.rows
