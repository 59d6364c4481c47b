use Rattle.std.proofs.Common.{length}
use Rattle.hw_chart_flat.proofs.marks.+some_is_held_whole.Goals as goal

pub is_held_whole-requires : goal.is_held_whole-requires
is_held_whole-requires t c = record { fits = c.in-Some.ensures.rule (length c.args.table.now) c.requires }
