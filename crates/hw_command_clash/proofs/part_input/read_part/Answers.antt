use Rattle.std.proofs.Common.{◌∙◌, ap}
use Rattle.hw_clash.specs.Clashes.{Clash}
use Rattle.hw_clash.specs.Parts.{part}
use Rattle.hw_command_clash.proofs.Inputs.{no_text, bad_line, no_room, reads_part}
use Rattle.hw_command_clash.proofs.part_input.read_part.Goals as goal

pub returns-in-Err-clause-no_part : goal.returns-in-Err-clause-no_part
returns-in-Err-clause-no_part g c = rw c.stopped.ensures.value (no_text c.in-Err.stop c.in-Err.ensures)

pub returns-in-Err-read_clash-clause-no_part : goal.returns-in-Err-read_clash-clause-no_part
returns-in-Err-read_clash-clause-no_part g c = rw c.bad_clash.ensures.value (bad_line c.in-Err-read_clash.fault c.in-Ok.ensures (rw c.deref.ensures.value at c.in-Err-read_clash.ensures.reads))

pub returns-in-Ok-part-clause-part : goal.returns-in-Ok-part-clause-part
returns-in-Ok-part-clause-part g c =
    reads_part c.in-Ok-read_clash.clash c.in-Ok.ensures (rw c.deref.ensures.value at c.in-Ok-read_clash.ensures.reads) c.in-Ok-read_clash.ensures.says
    (c.in-Ok-part.ensures ∙ ap (part c.args.wished.now) (c.deref-2.ensures.value ∙ ap (λ (clash : Clash). clash.kept) c.clash.view_is)) c.shape-shape.ensures.limits

pub returns-clause-no_part : goal.returns-clause-no_part
returns-clause-no_part g c = no_room c.in-Ok.ensures
