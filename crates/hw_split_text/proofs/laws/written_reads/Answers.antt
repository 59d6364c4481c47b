use Rattle.hw_split_text.proofs.Written.{written_reads}
use Rattle.hw_split_text.proofs.laws.written_reads.Goals as goal

pub returns : goal.returns
returns c = written_reads
