use Rattle.hw_port_lint.proofs.Told.{nothing_told, value_told}
use Rattle.hw_port_lint.proofs.instance.field_hints.Goals as goal

pub returns-in-Ok : goal.returns-in-Ok
returns-in-Ok c = value_told c.value_hints.result c.args.bytes.now c.args.fault c.in-Ok.ensures.ok c.value_hints.ensures

pub returns-in-Err : goal.returns-in-Err
returns-in-Err c = nothing_told c.no_hints.result c.args.bytes.now c.args.fault c.in-Err.error c.in-Err.ensures.err c.no_hints.ensures
