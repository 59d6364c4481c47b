use Rattle.std.proofs.Common.{◌≡◌, ◌++◌, drop, map}
use Rattle.hw_chart_clash.specs.Marks.{mark_among}
use Rattle.hw_chart_clash.proofs.mark.marks_among.Given as goal

abbrev pub invariant-loop-number : goal.invariant-loop-number
invariant-loop-number l = l.marks.items ++ map (mark_among l.port l.list) (drop l.number-index l.kept) ≡ map (mark_among l.port l.list) l.kept
