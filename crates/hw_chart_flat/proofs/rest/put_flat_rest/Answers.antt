use Rattle.hw_desk.proofs.Written.{puts_on, puts_nothing}
use Rattle.hw_chart_flat.specs.Rests.{flat_rest, lines_over}
use Rattle.hw_chart_flat.proofs.rest.put_flat_rest.Goals as goal

pub returns : goal.returns
unfolding flat_rest lines_over
returns g c =
    let span = c.slots_shown-span.ensures.value in
    let bottom = c.bottom-bottom.ensures.value in
    let lines = puts_on (rw (span, bottom) at c.put_grid.ensures) (rw (c.horizon.ensures.value, span, bottom) at c.put_span_end.ensures) in
    puts_on c.put_legend.ensures (puts_on c.put_body.ensures (puts_on lines (puts_nothing _)))
