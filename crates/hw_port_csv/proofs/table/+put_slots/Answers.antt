use Rattle.hw_desk.proofs.Written.{puts_on, puts_same}
use Rattle.hw_port_csv.proofs.Texts.{slots_next}
use Rattle.hw_port_csv.proofs.table.+put_slots.Goals as goal

pub returns-then-count-gt0 : goal.returns-then-count-gt0
returns-then-count-gt0 g t c = puts_same _ (slots_next c.args.plan.now c.args.first c.args.count c.if-count-gt0.true) (puts_on c.put_slot.ensures c.put_slots.ensures)
