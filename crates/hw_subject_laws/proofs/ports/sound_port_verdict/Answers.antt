use Rattle.hw_subject_laws.proofs.Sound.{sound_port_verdict_law}
use Rattle.hw_subject_laws.proofs.ports.sound_port_verdict.Goals as goal

pub returns : goal.returns
returns c = sound_port_verdict_law
