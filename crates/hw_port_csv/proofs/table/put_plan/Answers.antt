use Rattle.hw_desk.proofs.Written.{puts_same}
use Rattle.hw_port_csv.proofs.Texts.{plan_same}
use Rattle.hw_port_csv.proofs.table.put_plan.Goals as goal

pub returns : goal.returns
returns g c = puts_same _ (plan_same c.args.plan.now) (rw c.slots_of.ensures.value at c.put_slots.ensures)
