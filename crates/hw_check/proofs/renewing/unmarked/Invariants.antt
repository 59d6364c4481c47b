use Rattle.std.proofs.Common.{◌≡◌, false, not, filter, get_or, take}
use Rattle.hw_check.proofs.renewing.unmarked.Given as goal

abbrev pub invariant-loop-id : goal.invariant-loop-id
invariant-loop-id l = l.kept.items ≡ filter (λ id. not (get_or l.marked id false)) (take l.id-index l.ids)
