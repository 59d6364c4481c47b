use Rattle.std.proofs.Common.{◌≡◌, false, take}
use Rattle.csv.specs.Writing.{default_writer, needs_quotes}
use Rattle.hw_port_csv.proofs.field.needs_quotes.Given as goal

-- none of the bytes so far
abbrev pub invariant-loop-byte : goal.invariant-loop-byte
invariant-loop-byte l = needs_quotes default_writer (take l.byte-index l.text) ≡ false
