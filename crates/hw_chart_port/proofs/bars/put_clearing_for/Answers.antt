use Rattle.std.proofs.Common.{◌≡◌, ◌∙◌, Bool, true, cond, nat_eq, [], ap, sym, rules, w64}
use Rattle.std.proofs.lemmas.Bool.{eq-eqb}
use Rattle.std.proofs.lemmas.Int.{to_z-of_z}
use mir.Val.{SFits}
use Rattle.hw_desk.proofs.Written.{puts_same}
use Rattle.hw_port_model.specs.Numbers.{whole}
use Rattle.hw_chart_port.specs.Bars.{clearing}
use Rattle.hw_chart_port.proofs.bars.put_clearing_for.Goals as goal

pub returns-then-incoming_of-number : goal.returns-then-incoming_of-number
returns-then-incoming_of-number g c =
    let outgoing_fits : SFits w64 c.args.pair.now.outgoing = search rules in
    let clear_fits : SFits w64 c.args.pair.now.clear = search rules in
    let outgoing = simp to_z-of_z at c.natural.ensures in
    let clear = simp to_z-of_z at c.natural-then-incoming_of-number.ensures in
    let own : nat_eq (whole c.args.pair.now.incoming) c.args.number ≡ true = eq-eqb _ _ (sym c.incoming_of.ensures ∙ c.if-incoming_of-number.true) in
    puts_same _ (ap (λ (b : Bool). cond b (clearing c.args.chart.now c.args.pair.now) []) own) (rw (c.from-slot.ensures, c.slot_at.ensures, outgoing, c.from-clear.ensures, clear) at c.put_bar.ensures)
