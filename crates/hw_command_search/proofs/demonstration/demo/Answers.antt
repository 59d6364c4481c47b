use Rattle.hw_flat.specs.Demonstration.{demonstration}
use Rattle.hw_command_search.proofs.Demonstrated.{memory_meets, sent_meets, broken_meets}
use Rattle.hw_command_search.proofs.demonstration.demo.Goals as goal

pub returns-in-Err : goal.returns-in-Err
returns-in-Err g c = memory_meets (demonstration c.args.draw.number c.args.draw.ships c.args.draw.slots) c.args.budget c.args.proof.now c.finish.ensures

pub returns-in-Ok-send_lines : goal.returns-in-Ok-send_lines
returns-in-Ok-send_lines g c = sent_meets c.in-Ok.ensures (rw c.deref.ensures.value at c.in-Ok-send_lines.ensures) (rw c.summary.ensures.value at c.finish-in-Ok-send_lines.ensures)

pub returns : goal.returns
returns g c = broken_meets c.in-Ok.ensures (rw c.deref.ensures.value at c.in-Err-send_lines.ensures)
