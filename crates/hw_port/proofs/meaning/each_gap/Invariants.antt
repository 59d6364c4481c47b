use Rattle.std.proofs.Common.{◌≡◌, drop}
use Rattle.hw_port.specs.Faults.{each}
use Rattle.hw_port.specs.Meaning.{gap_fault}
use Rattle.hw_port.proofs.meaning.each_gap.Given as goal

abbrev pub invariant-loop-j : goal.invariant-loop-j
invariant-loop-j l = each (gap_fault l.i) l.j (drop l.j l.row) ≡ each (gap_fault l.i) 0 l.row
