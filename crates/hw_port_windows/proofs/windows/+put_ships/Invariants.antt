use Rattle.std.proofs.Common.{length}
use Rattle.hw_port_windows.proofs.windows.+put_ships.Given as goal

abbrev pub decreases-put_ships : goal.decreases-put_ships
decreases-put_ships g l = length l.ships.now
