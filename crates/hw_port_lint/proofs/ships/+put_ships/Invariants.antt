use Rattle.std.proofs.Common.{length}
use Rattle.hw_port_lint.proofs.ships.+put_ships.Given as goal

abbrev pub decreases-put_ships : goal.decreases-put_ships
decreases-put_ships l = length l.ships.now
