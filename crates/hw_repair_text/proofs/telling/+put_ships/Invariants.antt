use Rattle.std.proofs.Common.{length}
use Rattle.hw_repair_text.proofs.telling.+put_ships.Given as goal

abbrev pub decreases-put_ships : goal.decreases-put_ships
decreases-put_ships g l = length l.wishes.now
