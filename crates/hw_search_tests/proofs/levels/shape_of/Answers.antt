use Rattle.std.proofs.Common.{◌∙◌}
use Rattle.hw_trail.proofs.Shapes.{end_shape, shape_from}
use Rattle.hw_search_tests.proofs.levels.shape_of.Goals as goal

pub returns-clause-value : goal.returns-clause-value
returns-clause-value c = shape_from c.ships.result c.slots.result c.room-room.result.now c.ships.ensures.value c.slots.ensures.value ∙ end_shape c.args.trail.now c.room-room.ensures.trail c.room-room.result.now c.room-room.ensures.value
