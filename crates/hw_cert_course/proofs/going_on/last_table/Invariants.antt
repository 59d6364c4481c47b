use Rattle.std.proofs.Common.{◌≡◌, drop}
use Rattle.std.specs.List.{fold}
use Rattle.hw_cert_lines.specs.Lines.{last_table, table_after}
use Rattle.hw_cert_course.proofs.going_on.last_table.Given as goal

abbrev pub invariant-loop-line : goal.invariant-loop-line
invariant-loop-line l = fold table_after l.last (drop l.line-index l.lines) ≡ last_table l.lines
