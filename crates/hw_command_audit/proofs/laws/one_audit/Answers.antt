use Rattle.hw_command_audit.specs.AuditPort.{audit_answer}
use Rattle.hw_command_audit.proofs.Decided.{one_answer}
use Rattle.hw_command_audit.proofs.laws.one_audit.Goals as goal

pub returns : goal.returns
returns c = one_answer audit_answer
