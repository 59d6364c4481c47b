use Rattle.std.proofs.Common.{◌≡◌, ◌∙◌, Bool, true, cond, nat_eq, [], ap, sym, rules, w64}
use Rattle.std.proofs.lemmas.Bool.{eq-eqb}
use Rattle.std.proofs.lemmas.Int.{to_z-of_z}
use mir.Val.{SFits}
use Rattle.hw_desk.proofs.Written.{puts_same}
use Rattle.hw_port_model.specs.Numbers.{whole}
use Rattle.hw_chart_port.specs.Lanes.{stay_mark, stay_of}
use Rattle.hw_chart_port.proofs.lane.put_stretch.Goals as goal

pub returns-then-natural-lane : goal.returns-then-natural-lane
returns-then-natural-lane g c =
    let fits : SFits w64 c.args.stretch.now.section = search rules in
    let section = simp to_z-of_z at c.natural.ensures in
    let here : nat_eq (whole c.args.stretch.now.section) c.args.lane.place ≡ true = eq-eqb _ _ (sym section ∙ c.if-natural-lane.true) in
    puts_same _ (ap (λ (b : Bool). cond b (stay_mark c.args.ship.now c.args.lane.name.now (stay_of c.args.chart.now c.args.ship.now c.args.slot c.args.stretch.now)) []) here) (rw c.stay_of.ensures.value at c.put_stay.ensures)
