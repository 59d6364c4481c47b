use Rattle.std.proofs.Common.{inr, subst}
use Rattle.hw_model.specs.Problem.{Problem}
use Rattle.hw_search_resumed.specs.Parts.{PartStopsFor}
use Rattle.hw_command_split.proofs.Partings.{sends_parted}
use Rattle.hw_command_split.proofs.parting.part_to.Goals as goal

pub returns-in-Err-part : goal.returns-in-Err-part
returns-in-Err-part g c =
    let course = c.in-Ok.start in
    inr (record {
      course = course;
      starts = c.in-Ok.ensures;
      stop = c.in-Err-part.stop;
      cause = subst (λ (f : Problem). PartStopsFor f course.lines.items c.args.room.now c.in-Err-part.stop) c.in-Ok.ensures.stands.problem c.in-Err-part.ensures;
      told = c.stop_outcome.ensures;
    })

pub returns-in-Ok-send_lines : goal.returns-in-Ok-send_lines
returns-in-Ok-send_lines g c = sends_parted c.in-Ok.start c.in-Ok-part.parted c.in-Ok.ensures c.in-Ok-part.ensures (rw c.deref.ensures.value at c.in-Ok-send_lines.ensures)

pub returns : goal.returns
returns g c = (c.in-Ok-part.parted.is_closed, sends_parted c.in-Ok.start c.in-Ok-part.parted c.in-Ok.ensures c.in-Ok-part.ensures (rw c.deref.ensures.value at c.in-Err-send_lines.ensures))
