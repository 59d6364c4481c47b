use Rattle.std.proofs.Common.{◌≡◌, ◌∙◌, Bool, true, cond, [], append-nil, ap, sym}
use Rattle.hw_desk.proofs.Written.{puts_on, puts_same}
use Rattle.hw_chart_svg.specs.Numbers.{tonnes_label}
use Rattle.hw_port_model.specs.Numbers.{is_outgoing}
use Rattle.hw_chart_port.specs.Figures.{cargo_lines}
use Rattle.hw_chart_port.proofs.figures.put_cargo.Goals as goal

pub returns-then-is_outgoing : goal.returns-then-is_outgoing
returns-then-is_outgoing g c =
    let goes_out : is_outgoing c.args.ship.now ≡ true = sym c.is_outgoing.ensures ∙ c.if-is_outgoing.true in
    let cargo = rw (c.from-row.ensures, append-nil (tonnes_label c.args.sailing.cargo)) at c.put_line.ensures in
    let all = rw (c.from-row.ensures, c.capacity-all.ensures) at c.put_line-then-is_outgoing.ensures in
    puts_same _ (ap (λ (b : Bool). cond b (cargo_lines c.args.ship.now c.args.sailing c.args.y) []) goes_out) (puts_on cargo all)
