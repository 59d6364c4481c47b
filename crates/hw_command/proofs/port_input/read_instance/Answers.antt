use Rattle.hw_command.proofs.PortForms.{reads_instance}
use Rattle.hw_command.proofs.port_input.read_instance.Goals as goal

pub returns-in-Ok-read_port : goal.returns-in-Ok-read_port
returns-in-Ok-read_port g c = reads_instance c.in-Ok.ensures (rw c.deref.ensures.value at c.in-Ok-read_port.ensures) (rw c.parts-parts.ensures.parts at c.parts-parts.ensures.kept)
