use Rattle.hw_port_lint.proofs.Told.{break_told}
use Rattle.hw_port_lint.proofs.instance.json_hints.Goals as goal

pub returns : goal.returns
returns c = break_told c.break_hints.result _ _ _ c.break_hints.ensures
