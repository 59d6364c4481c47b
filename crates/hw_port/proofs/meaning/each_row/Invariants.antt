use Rattle.std.proofs.Common.{◌≡◌, drop, length}
use Rattle.hw_port.specs.Faults.{each}
use Rattle.hw_port.specs.Meaning.{row_fault}
use Rattle.hw_port.proofs.meaning.each_row.Given as goal

abbrev pub invariant-loop-i : goal.invariant-loop-i
invariant-loop-i l = each (row_fault (length l.rows)) l.i (drop l.i l.rows) ≡ each (row_fault (length l.rows)) 0 l.rows
