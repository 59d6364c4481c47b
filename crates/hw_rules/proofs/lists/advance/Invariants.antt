use Rattle.std.proofs.Common.{◌≡◌, ◌+◌, ◌-◌, ◌^◌, ◌<◌, ◌≤◌, length, All}
use Rattle.hw_model.specs.Walk.{rank}
use Rattle.hw_rules.proofs.lists.advance.Given as goal

-- the slots that were passed were the last ones, and are the first now
abbrev pub invariant-loop-left : goal.invariant-loop-left
invariant-loop-left l = record {
  inside : l.left ≤ length l.list;
  below : All (λ slot. slot < l.slots) l.list;
  rank : rank l.slots l.list + l.slots ^ (length l.list - l.left) ≡ rank l.slots l.fn.list + 1;
}

abbrev pub decreases-loop-left : goal.decreases-loop-left
decreases-loop-left l = l.left
