use Rattle.std.proofs.Common.{◌≡◌, ◌-◌, ◌++◌, ◌∙◌, List, ℕ, take, ap, sym}
use Rattle.hw_desk.proofs.Written.{puts_on, puts_same}
use Rattle.hw_chart_svg.specs.Names.{escaped}
use Rattle.hw_chart_svg.specs.Shortened.{beginning_within, ellipsis}
use Rattle.hw_chart_svg.specs.declared.name.TheConstants.{ELLIPSIS_WIDTH}
use Rattle.hw_chart_svg.proofs.Shortened.{begins, escaped_both}
use Rattle.hw_chart_svg.proofs.lettering.put_shortened.Goals as goal

pub returns : goal.returns
returns g c =
    let name = c.args.name.now in
    let room = c.args.place - ELLIPSIS_WIDTH in
    let shown : take c.fitting-count.result name ≡ beginning_within room name = rw (c.fitting-count.ensures.value, c.saturating_sub.ensures) (begins room name) in
    puts_same _ (escaped_both (beginning_within room name) ellipsis ∙ ap (λ (l : List ℕ). escaped l ++ escaped ellipsis) (sym shown)) (puts_on c.put_name.ensures c.put_name-2.ensures)
