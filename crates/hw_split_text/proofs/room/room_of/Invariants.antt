use Rattle.std.proofs.Common.{drop}
use Rattle.hw_split_text.proofs.Rooms.{CutSoFar}
use Rattle.hw_split_text.proofs.room.room_of.Given as goal

abbrev pub invariant-loop-lit : goal.invariant-loop-lit
invariant-loop-lit l = CutSoFar l.fn.shape l.literals l.room (drop l.lit-index l.literals)
