use Rattle.std.proofs.Common.{◌==◌, take}
use Rattle.std.specs.List.{list_any}
use Rattle.hw_cert_closes.specs.Numbers.{MarksMore}
use Rattle.hw_cert_closes.proofs.deletions.mark_all.Given as goal

abbrev pub invariant-loop-id : goal.invariant-loop-id
invariant-loop-id l = MarksMore l.fn.marks.items (λ n. list_any (λ id. id == n) (take l.id-index l.ids)) l.marks.items
