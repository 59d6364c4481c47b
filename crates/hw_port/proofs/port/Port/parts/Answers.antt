use Rattle.hw_port.proofs.KeptPorts.{port_kept}
use Rattle.hw_port.proofs.port.Port.parts.Goals as goal

pub returns-clause-kept : goal.returns-clause-kept
returns-clause-kept c = port_kept _ c.self.invariant
