use Rattle.hw_command.proofs.FlatForms.{no_text_stops, bad_text_stops, reads_flat}
use Rattle.hw_command.proofs.input.read_flat.Goals as goal

pub returns-in-Err-clause-no_flat : goal.returns-in-Err-clause-no_flat
returns-in-Err-clause-no_flat g c = rw c.stopped.ensures.value (no_text_stops c.in-Err.stop c.in-Err.ensures)

pub returns-in-Ok-read-clause-flat : goal.returns-in-Ok-read-clause-flat
returns-in-Ok-read-clause-flat g c = reads_flat c.in-Ok.ensures (rw c.deref.ensures.value at c.in-Ok-read.ensures) c.shape-shape.ensures.limits

pub returns-clause-no_flat : goal.returns-clause-no_flat
returns-clause-no_flat g c = rw c.bad_text.ensures.value (bad_text_stops c.in-Err-read.fault c.in-Ok.ensures (rw c.deref.ensures.value at c.in-Err-read.ensures))
