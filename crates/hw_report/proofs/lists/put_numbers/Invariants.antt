use Rattle.std.proofs.Common.{drop}
use Rattle.hw_desk.specs.Writers.{WriterState, Puts}
use Rattle.hw_report.specs.Lines.{numbers_text}
use Rattle.hw_report.proofs.lists.put_numbers.Given as goal

-- whatever follows the numbers so far, beginning with those that are left
abbrev pub invariant-loop-number : goal.invariant-loop-number
invariant-loop-number g l =
    let state = g.W.Writer.state in
    (end : WriterState) → Puts (numbers_text (drop l.number-index l.numbers)) (state l.out) end → Puts (numbers_text l.numbers) (state l.fn.out) end
