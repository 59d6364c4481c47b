use Rattle.hw_command_audit.specs.CarryPort.{carry_answer}
use Rattle.hw_command_audit.proofs.Decided.{one_answer}
use Rattle.hw_command_audit.proofs.laws.one_carry.Goals as goal

pub returns : goal.returns
returns c = one_answer carry_answer
