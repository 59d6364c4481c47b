use Rattle.hw_flat.proofs.TextBack.{text_reads_back}
use Rattle.hw_flat.proofs.laws.reads_back.Goals as goal

pub returns : goal.returns
returns c = text_reads_back
