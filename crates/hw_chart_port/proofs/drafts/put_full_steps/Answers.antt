use Rattle.std.proofs.Common.{◌≡◌, ◌∙◌, Bool, true, cond, [], ap, sym, rules, w64}
use Rattle.std.proofs.lemmas.Int.{to_z-of_z}
use mir.Val.{SFits}
use Rattle.hw_desk.proofs.Written.{puts_same}
use Rattle.hw_port_model.specs.Numbers.{is_outgoing}
use Rattle.hw_chart_port.specs.Drafts.{full_sailings}
use Rattle.hw_chart_port.proofs.drafts.put_full_steps.Goals as goal

pub returns-then-is_outgoing : goal.returns-then-is_outgoing
returns-then-is_outgoing g c =
    let fits : SFits w64 c.full_draft.result = search rules in
    let steps = simp to_z-of_z at c.put_sailing_steps.ensures in
    let goes_out : is_outgoing c.args.ship.now ≡ true = sym c.is_outgoing.ensures ∙ c.if-is_outgoing.true in
    puts_same _ (ap (λ (b : Bool). cond b (full_sailings c.args.chart.now c.args.number c.args.ship.now c.args.window) []) goes_out) (rw c.full_draft.ensures at steps)
