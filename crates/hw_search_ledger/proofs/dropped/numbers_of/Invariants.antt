use Rattle.std.proofs.Common.{◌≡◌, ℕ, Option, filter_map, take}
use Rattle.hw_search_ledger.proofs.dropped.numbers_of.Given as goal

abbrev pub invariant-loop-one : goal.invariant-loop-one
invariant-loop-one l = l.numbers.items ≡ filter_map (λ (number : Option ℕ). number) (take l.one-index l.written)
