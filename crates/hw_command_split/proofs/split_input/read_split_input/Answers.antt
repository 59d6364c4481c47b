use Rattle.hw_command_split.proofs.SplitInputs.{no_text, bad_line, reads_split}
use Rattle.hw_command_split.proofs.split_input.read_split_input.Goals as goal

pub returns-in-Err-clause-no_split : goal.returns-in-Err-clause-no_split
returns-in-Err-clause-no_split g c = rw c.stopped.ensures.value (no_text c.in-Err.stop c.in-Err.ensures)

pub returns-in-Ok-read_split-clause-split : goal.returns-in-Ok-read_split-clause-split
returns-in-Ok-read_split-clause-split g c = reads_split c.in-Ok-read_split.split c.in-Ok.ensures (rw c.deref.ensures.value at c.in-Ok-read_split.ensures.reads) c.in-Ok-read_split.ensures.fits

pub returns-clause-no_split : goal.returns-clause-no_split
returns-clause-no_split g c = rw c.bad_split.ensures.value (bad_line c.in-Err-read_split.fault c.in-Ok.ensures (rw c.deref.ensures.value at c.in-Err-read_split.ensures.reads))
