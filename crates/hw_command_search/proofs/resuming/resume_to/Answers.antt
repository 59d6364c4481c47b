use Rattle.std.proofs.Common.{inr, refl, subst}
use Rattle.hw_model.specs.Problem.{Problem}
use Rattle.hw_search_resumed.specs.Going.{ResumingStopsFor}
use Rattle.hw_command_search.specs.Resuming.{resumed_found}
use Rattle.hw_command_search.proofs.Resumptions.{sends_resumed}
use Rattle.hw_command_search.proofs.resuming.resume_to.Goals as goal

pub returns-in-Err-resume : goal.returns-in-Err-resume
returns-in-Err-resume g c =
    let start = c.in-Ok.start in
    inr (record {
      start = start;
      starts = c.in-Ok.ensures;
      stop = c.in-Err-resume.stop;
      cause = subst (λ (f : Problem). ResumingStopsFor f start.lines.items c.in-Err-resume.stop) c.in-Ok.ensures.stands.problem c.in-Err-resume.ensures;
      told = c.stop_outcome.ensures;
    })

pub returns-in-Ok-send_lines : goal.returns-in-Ok-send_lines
returns-in-Ok-send_lines g c = sends_resumed c.in-Ok.start c.in-Ok-resume.resumed _ c.in-Ok.ensures c.resumed_found.ensures c.in-Ok-resume.ensures (rw c.deref.ensures.value at c.in-Ok-send_lines.ensures)

pub returns-in-Err-send_lines : goal.returns-in-Err-send_lines
returns-in-Err-send_lines g c =
    let found = resumed_found c.args.budget c.in-Ok-resume.resumed in
    (found, sends_resumed c.in-Ok.start c.in-Ok-resume.resumed found c.in-Ok.ensures refl c.in-Ok-resume.ensures (rw c.deref.ensures.value at c.in-Err-send_lines.ensures))
