use Rattle.hw_flat_laws.proofs.Words as computed
use Rattle.hw_flat_laws.proofs.worked.word_rows.Goals as goal

pub returns : goal.returns
returns c = computed.rows
