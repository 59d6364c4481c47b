use Rattle.std.proofs.Common.{◌≡◌, ◌+◌, ◌∙◌, Bool, true, false, cond, codes, [], append-nil, ap, sym}
use Rattle.hw_desk.proofs.Written.{puts_on, puts_same}
use Rattle.hw_chart_svg.specs.Lettering.{line}
use Rattle.hw_chart_svg.specs.Numbers.{metres}
use Rattle.hw_port_model.specs.Numbers.{is_outgoing, whole}
use Rattle.hw_chart_port.specs.Figures.{shortness}
use Rattle.hw_chart_port.proofs.figures.put_draft.Goals as goal
use Rattle.hw_port_windows.specs.Statuses.{full_draft}

pub returns-then-is_outgoing : goal.returns-then-is_outgoing
returns-then-is_outgoing g c =
    let ship = c.args.ship.now in
    let goes_out : is_outgoing ship ≡ true = sym c.is_outgoing.ensures ∙ c.if-is_outgoing.true in
    let draft = rw (c.from-row.ensures, c.from-draft.ensures, append-nil (metres c.args.sailing.draft)) at c.put_line.ensures in
    let short = rw (c.from-row.ensures, c.shortness-short.ensures, c.natural_full.ensures) at c.put_line-then-is_outgoing.ensures in
    puts_on draft (puts_same _ (ap (λ (b : Bool). cond b (line (codes "r m") 1020 (c.args.y + 33) (shortness (whole (full_draft ship)) c.args.sailing.draft)) []) goes_out) short)

pub returns-else-is_outgoing : goal.returns-else-is_outgoing
returns-else-is_outgoing g c =
    let ship = c.args.ship.now in
    let comes_in : is_outgoing ship ≡ false = sym c.is_outgoing.ensures ∙ c.if-is_outgoing.false in
    let draft = rw (c.from-row.ensures, c.from-draft.ensures, append-nil (metres c.args.sailing.draft)) at c.put_line.ensures in
    puts_on draft (puts_same _ (ap (λ (b : Bool). cond b (line (codes "r m") 1020 (c.args.y + 33) (shortness (whole (full_draft ship)) c.args.sailing.draft)) []) comes_in) c.put.ensures.puts)
