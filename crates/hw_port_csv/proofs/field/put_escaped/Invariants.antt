use Rattle.std.proofs.Common.{drop}
use Rattle.csv.specs.Writing.{default_writer, escaped}
use Rattle.hw_desk.specs.Writers.{WriterState, Puts}
use Rattle.hw_port_csv.proofs.field.put_escaped.Given as goal

-- whatever follows the bytes so far, beginning with those that are left
abbrev pub invariant-loop-byte : goal.invariant-loop-byte
invariant-loop-byte g l =
    let state = g.W.Writer.state in
    (end : WriterState) → Puts (escaped default_writer (drop l.byte-index l.text)) (state l.out) end → Puts (escaped default_writer l.text) (state l.fn.out) end
