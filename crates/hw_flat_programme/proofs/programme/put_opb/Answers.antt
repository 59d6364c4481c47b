use Rattle.std.proofs.Common.{ap}
use Rattle.hw_model.specs.declared.shape.Shape.{Shape}
use Rattle.hw_desk.proofs.Written.{puts_on, puts_nothing}
use Rattle.hw_flat_programme.specs.Texts.{opb_text}
use Rattle.hw_flat_programme.proofs.programme.put_opb.Goals as goal

pub returns : goal.returns
unfolding opb_text
returns g c =
    let head = rw (c.variables.ensures, c.count_rows.ensures.value) at c.put_head.ensures in
    let notes = rw (ap (λ (s : Shape). s.slots) c.shape.ensures.value, c.most_of_all.ensures) at c.put_notes.ensures in
    puts_on head (puts_on notes (puts_on c.put.ensures.puts (puts_on c.put_objective.ensures (puts_on c.put-2.ensures.puts (puts_on c.put_rows.ensures (puts_nothing _))))))
