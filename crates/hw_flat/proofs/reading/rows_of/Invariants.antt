use Rattle.std.proofs.Common.{◌≡◌, ◌+◌, ◌-◌}
use Rattle.hw_text.specs.Parts.{parts_of}
use Rattle.hw_flat.specs.Text.{rows_at}
use Rattle.hw_flat.proofs.Lines.{prefixed}
use Rattle.hw_flat.proofs.reading.rows_of.Given as goal

abbrev pub invariant-loop-i : goal.invariant-loop-i
invariant-loop-i l = prefixed l.values.items (rows_at l.stay l.slots (3 + l.i) (l.ships - l.i) (parts_of 10 l.rest)) ≡ rows_at l.stay l.slots 3 l.ships (parts_of 10 l.bytes)
