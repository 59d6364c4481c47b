use Rattle.hw_repair.proofs.Written.{written_reads}
use Rattle.hw_repair.proofs.laws.written_reads.Goals as goal

pub returns : goal.returns
returns c = written_reads
