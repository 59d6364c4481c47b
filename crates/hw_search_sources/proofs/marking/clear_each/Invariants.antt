use Rattle.std.proofs.Common.{◌≡◌, ℕ, ◌<◌, false}
use Rattle.hw_search_sources.specs.Marks.{is_place_marked}
use Rattle.hw_search_sources.proofs.marking.clear_each.Given as goal

abbrev pub invariant-loop-mark : goal.invariant-loop-mark
invariant-loop-mark l = (k : ℕ) → k < l.mark-index → is_place_marked l.marks k ≡ false
