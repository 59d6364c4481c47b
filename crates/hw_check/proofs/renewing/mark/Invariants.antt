use Rattle.std.proofs.Common.{◌≡◌, ℕ, ◌<◌, ◌||◌, false, length, get_or, take}
use Rattle.hw_check.specs.Marks.{is_among_numbers}
use Rattle.hw_check.proofs.renewing.mark.Given as goal

abbrev pub invariant-loop-id : goal.invariant-loop-id
invariant-loop-id l = (id : ℕ) → id < length l.fn.marked → get_or l.marked id false ≡ (get_or l.fn.marked id false || is_among_numbers id (take l.id-index l.ids))
