use Rattle.std.proofs.Common.{◌∙◌, ap}
use Rattle.hw_desk.proofs.Written.{puts_on, puts_nothing}
use Rattle.hw_chart_clash.specs.declared.mark.Mark.{Mark}
use Rattle.hw_chart_clash.proofs.drawing.put_mark.Goals as goal

pub returns : goal.returns
returns g c = puts_on c.put_item_begin.ensures (puts_on (rw (c.deref.ensures.value ∙ ap (λ (mark : Mark). mark.title) c.mark.view_is) at c.put_name.ensures) (puts_on c.put_title_end.ensures (puts_on (rw (ap (λ (mark : Mark). mark.shape) c.mark.view_is) at c.put_shape_of.ensures) (puts_on c.put_group_end.ensures (puts_nothing _)))))
