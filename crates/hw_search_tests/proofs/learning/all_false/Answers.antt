use Rattle.std.proofs.Common.{◌≡◌, subst, arith}
use Rattle.std.proofs.lemmas.List.{take_all}
use Rattle.std.proofs.lemmas.List.Elements.{All-more}
use Rattle.std.proofs.Common.{All, List}
use Rattle.hw_model.specs.declared.lit.Lit.{Lit}
use Rattle.hw_model.specs.declared.lit.Lit.TheVariants.{AtOrAfter}
use Rattle.hw_model.specs.declared.lit.LitTruth.TheVariants.{False}
use Rattle.hw_model.specs.Narrowing.{truth}
use Rattle.hw_trail_laws.specs.Trails.{room_of}
use Rattle.hw_search_tests.proofs.learning.all_false.Goals as goal

pub loop-lit-preserved : goal.loop-lit-preserved
loop-lit-preserved c =
    All-more (λ lit. truth (room_of c.args.trail.now) lit ≡ False) c.args.lits.now c.loop-lit.lit-index (AtOrAfter 0 0) c.loop-lit-test.true c.loop-lit.invariant (c.is_false.ensures.value c.if-not-is_false.false)

pub returns : goal.returns
returns c = record {
  value = λ y. subst (λ (x : List Lit). All (λ lit. truth (room_of c.args.trail.now) lit ≡ False) x) (take_all c.loop-lit.lit-index c.args.lits.now (omega arith)) c.loop-lit.invariant;
}
