use Rattle.std.proofs.Common.{ℕ, ◌<◌, get_or, IsTrue}
use Rattle.hw_model.specs.declared.lit.Lit.{Lit}
use Rattle.hw_model.specs.declared.source.Source.TheVariants.{Goal}
use Rattle.hw_model.specs.Quiet.{names_lit}
use Rattle.hw_price_adviser.proofs.exact.names_no_order.Given as goal

abbrev pub invariant-loop-lit : goal.invariant-loop-lit
invariant-loop-lit l = (k : ℕ) (d : Lit) → k < l.lit-index → IsTrue (names_lit l.flat Goal (get_or l.lit-items k d))
