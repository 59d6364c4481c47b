use Rattle.hw_audit.proofs.Ports.{none_port_broken}
use Rattle.hw_audit.proofs.laws.none_port_broken.Goals as goal

pub returns : goal.returns
returns c = none_port_broken
