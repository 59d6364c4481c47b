use Rattle.std.proofs.Common.{arith}
use Rattle.hw_search_resumed.proofs.confined.open_end.Goals as goal

pub overflow_add-end : goal.overflow_add-end
overflow_add-end c = omega (arith, c.ships-ships.ensures.room.few_slots, c.high-end.ensures.in_slots)
