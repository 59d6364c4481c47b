use Rattle.std.proofs.Common.{map, take}
use Rattle.hw_desk.specs.Writers.{Puts}
use Rattle.hw_text.specs.Parts.{ended_lines}
use Rattle.hw_cert.specs.Texts.{line_text}
use Rattle.hw_cert.proofs.sending.put_lines.Given as goal

abbrev pub invariant-loop-line : goal.invariant-loop-line
invariant-loop-line g l = Puts (ended_lines (map line_text (take l.line-index l.lines))) (g.W.Writer.state l.fn.out) (g.W.Writer.state l.out)
