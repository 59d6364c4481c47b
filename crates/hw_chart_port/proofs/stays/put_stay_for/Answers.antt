use Rattle.std.proofs.Common.{◌≡◌, ◌∙◌, Bool, true, cond, nat_eq, [], ap, sym}
use Rattle.std.proofs.lemmas.Bool.{eq-eqb}
use Rattle.hw_desk.proofs.Written.{puts_on, puts_same}
use Rattle.hw_port_model.specs.Numbers.{whole}
use Rattle.hw_chart_port.specs.Stays.{stay, wait_title}
use Rattle.hw_chart_port.proofs.stays.put_stay_for.Goals as goal

pub returns-then-second_of-number : goal.returns-then-second_of-number
unfolding wait_title
returns-then-second_of-number g c =
    let own : nat_eq (whole c.args.pair.now.second) c.args.number ≡ true = eq-eqb _ _ (sym c.second_of.ensures ∙ c.if-second_of-number.true) in
    let whole_stay = rw (c.name_of-second.ensures, c.second_of-then-second_of-number.ensures, c.name_of-first.ensures, c.first_of.ensures, c.wait_of-wait.ensures) at c.put_titled.ensures in
    let wait = rw c.wait_of-wait.ensures at c.put_bar.ensures in
    puts_same _ (ap (λ (b : Bool). cond b (stay c.args.chart.now c.args.pair.now) []) own) (puts_on whole_stay wait)
