use Rattle.std.proofs.Common.{◌≡◌, Bool, true, cond, nat_lt, [], ap}
use Rattle.std.proofs.lemmas.Bool.{lt-ltb}
use Rattle.hw_desk.proofs.Written.{puts_on, puts_same}
use Rattle.hw_port_model.specs.Numbers.{whole}
use Rattle.hw_chart_port.specs.Bars.{tug_bars}
use Rattle.hw_chart_port.proofs.bars.put_tugs_where.Goals as goal

pub returns-then-tugs_of-gt0 : goal.returns-then-tugs_of-gt0
returns-then-tugs_of-gt0 g c =
    let some : nat_lt 0 (whole c.args.ship.now.tugs) ≡ true = lt-ltb 0 _ (rw c.tugs_of.ensures at c.if-tugs_of-gt0.true) in
    let job = rw (c.from-from.ensures, c.job_of.ensures.value) at c.put_bar.ensures in
    let turn = rw (c.from-from.ensures, c.job_of.ensures.value, c.from.ensures, c.hold.ensures.value, c.parts.ensures.parts) at c.put_bar-then-tugs_of-gt0.ensures in
    puts_same _ (ap (λ (b : Bool). cond b (tug_bars c.args.chart.now c.args.ship.now c.args.slot) []) some) (puts_on job turn)
