use Rattle.std.proofs.Common.{length}
use Rattle.hw_chart_port.proofs.row.+put_rows.Given as goal

abbrev pub decreases-put_rows : goal.decreases-put_rows
decreases-put_rows g l = length l.ships.now
