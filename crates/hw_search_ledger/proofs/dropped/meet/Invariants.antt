use Rattle.std.proofs.Common.{ℕ, take}
use Rattle.std.specs.Prelude.{Contains}
use Rattle.hw_search_ledger.proofs.dropped.meet.Given as goal

abbrev pub invariant-loop-number : goal.invariant-loop-number
invariant-loop-number l = (number : ℕ) → Contains l.numbers number → Contains (take l.number-index l.earlier) number → ⊥
