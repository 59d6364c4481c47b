use Rattle.std.proofs.Common.{◌≡◌, ◌+◌, drop, length}
use Rattle.hw_cert_lines.specs.Lemmas.{lemmas_of}
use Rattle.hw_command_search.proofs.demonstration.count_lemmas.Given as goal

abbrev pub invariant-loop-line : goal.invariant-loop-line
invariant-loop-line l = l.count + length (lemmas_of (drop l.line-index l.lines)) ≡ length (lemmas_of l.lines)
