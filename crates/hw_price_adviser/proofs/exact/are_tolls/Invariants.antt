use Rattle.std.proofs.Common.{ℕ, ◌<◌, get_or}
use Rattle.hw_price_laws.specs.declared.toll.Toll.{Toll}
use Rattle.hw_price_laws.specs.Tolls.{IsToll}
use Rattle.hw_price_adviser.proofs.exact.are_tolls.Given as goal

abbrev pub invariant-loop-toll : goal.invariant-loop-toll
invariant-loop-toll l = (k : ℕ) (d : Toll) → k < l.toll-index → IsToll l.flat (get_or l.tolls k d)
