use Rattle.std.proofs.Common.{◌≡◌, take}
use Rattle.hw_cert_lines.specs.Kept.{without}
use Rattle.hw_check.proofs.clause_list.ClauseList.remove_all.Given as goal

abbrev pub invariant-loop-id : goal.invariant-loop-id
invariant-loop-id l = l.self ≡ record l.fn.self { live = without (take l.id-index l.ids) l.fn.self.live }
