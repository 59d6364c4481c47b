use Rattle.std.proofs.Common.{◌∙◌, ap, sym}
use Rattle.hw_split_text.specs.Splits.{branch_room}
use Rattle.hw_command_split.proofs.Partings.{is_part_room, part_opens}
use Rattle.hw_command_split.proofs.split_input.part_room.Goals as goal

pub room_of-requires-clause-in_turn : goal.room_of-requires-clause-in_turn
room_of-requires-clause-in_turn c = rw (c.shape.ensures.value, c.deref.ensures.value) (part_opens c.args.flat.now c.args.split.now c.args.number c.in-Ok-Some.branch.items c.requires.split (sym (rw c.in-Ok-Some.field-0-is at c.in-Ok-Some.ensures)))

pub returns-in-Ok-clause-room : goal.returns-in-Ok-clause-room
returns-in-Ok-clause-room c = is_part_room (rw c.shape.ensures.value at c.shape.ensures.fits) c.requires.split (sym (rw c.in-Ok-Some.field-0-is at c.in-Ok-Some.ensures)) (rw c.deref.ensures.value at c.in-Ok.ensures ∙ ap (λ shape. branch_room shape c.in-Ok-Some.branch.items) c.shape.ensures.value)
