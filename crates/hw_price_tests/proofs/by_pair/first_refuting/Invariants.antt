use Rattle.std.proofs.Common.{ℕ, ◌<◌, None}
use Rattle.hw_model.specs.declared.source.Source.TheVariants as sources
use Rattle.hw_model.specs.Refuting.{Refutes}
use Rattle.hw_price_tests.proofs.by_pair.first_refuting.Given as goal

abbrev pub invariant-loop-place : goal.invariant-loop-place
invariant-loop-place l = (k : ℕ) → k < l.place → Refutes l.flat (sources.Rule k) None l.room → ⊥
