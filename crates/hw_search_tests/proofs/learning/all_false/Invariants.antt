use Rattle.std.proofs.Common.{◌≡◌, take, All}
use Rattle.hw_model.specs.declared.lit.LitTruth.TheVariants.{False}
use Rattle.hw_model.specs.Narrowing.{truth}
use Rattle.hw_trail_laws.specs.Trails.{room_of}
use Rattle.hw_search_tests.proofs.learning.all_false.Given as goal

abbrev pub invariant-loop-lit : goal.invariant-loop-lit
invariant-loop-lit l = All (λ lit. truth (room_of l.trail) lit ≡ False) (take l.lit-index l.lits)
