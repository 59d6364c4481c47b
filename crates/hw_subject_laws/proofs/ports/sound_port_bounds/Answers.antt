use Rattle.hw_subject_laws.proofs.Sound.{sound_port_bounds_law}
use Rattle.hw_subject_laws.proofs.ports.sound_port_bounds.Goals as goal

pub returns : goal.returns
returns c = sound_port_bounds_law
