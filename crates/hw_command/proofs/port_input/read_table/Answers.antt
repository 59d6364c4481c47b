use Rattle.std.proofs.Common.{subst}
use Rattle.hw_tide.specs.Levels.{IsTide}
use Rattle.hw_command.proofs.PortForms.{reads_tide}
use Rattle.hw_command.proofs.port_input.read_table.Goals as goal

pub returns-in-Ok-read_tides : goal.returns-in-Ok-read_tides
returns-in-Ok-read_tides g c = reads_tide c.in-Ok.ensures (rw c.deref.ensures.value at c.in-Ok-read_tides.ensures.tide) (subst IsTide c.tide.view_is c.tide.invariant) c.in-Ok-read_tides.ensures.columns
