use Rattle.std.proofs.Common.{ℕ, [], ◌<◌, List, sym, subst}
use Rattle.std.specs.Prelude.{All}
use Rattle.std.proofs.lemmas.Result.{IfOk-weaker}
use Rattle.hw_model.specs.declared.lit.Lit.{Lit}
use Rattle.hw_model.specs.declared.shape.Shape.{Shape}
use Rattle.hw_model.specs.Problem.{shape_of}
use Rattle.hw_prop.specs.Plain.{Climb}
use Rattle.hw_prop.specs.Speaks.{IsExplanation, IsLocal}
use Rattle.hw_prop.proofs.Scopes.{climb_all}
use Rattle.hw_tugs.specs.Fleets.{fleet_at}
use Rattle.hw_tugs.specs.Over.{OverAt}
use Rattle.hw_tugs.proofs.Sources.{spoken_by, slot_local_by, slot_explains}
use Rattle.hw_tugs.proofs.explaining.cut_clause.Goals as goal

pub clause_of-requires-clause-all_ships : goal.clause_of-requires-clause-all_ships
clause_of-requires-clause-all_ships c =
    let f = c.args.test.now.by.flat.now in
    let spoken = spoken_by f c.args.test.now.by.source c.args.test.now.rule.fleet c.args.test.now.rule.later.now c.args.test.now.rule.jobs.now c.args.ships.now c.shape-shape.ensures.limits c.requires.source_in c.requires.rule c.requires.ships in
    let P : Shape → Type 0 = λ s. All (λ v. v < s.ships) c.args.ships.now in
    subst P (sym c.shape-shape.ensures.value) (climb_all 0 f.ships c.args.ships.now spoken.climb)

pub clause_of-requires-clause-ships : goal.clause_of-requires-clause-ships
clause_of-requires-clause-ships c =
    let f = c.args.test.now.by.flat.now in
    let spoken = spoken_by f c.args.test.now.by.source c.args.test.now.rule.fleet c.args.test.now.rule.later.now c.args.test.now.rule.jobs.now c.args.ships.now c.shape-shape.ensures.limits c.requires.source_in c.requires.rule c.requires.ships in
    let P : Shape → Type 0 = λ s. Climb 0 s.ships c.args.ships.now in
    subst P (sym c.shape-shape.ensures.value) spoken.climb

pub clause_of-requires-clause-local : goal.clause_of-requires-clause-local
clause_of-requires-clause-local c = subst (λ n. IsLocal (OverAt n c.args.test.now.rule.jobs.now c.args.cut.slot) c.args.ships.now []) (sym c.at.ensures.value) (slot_local_by (fleet_at c.args.test.now.fleets.now c.args.cut.slot) c.args.test.now.rule.jobs.now c.args.cut.slot c.args.ships.now c.requires.ships)

pub returns-clause-worth : goal.returns-clause-worth
returns-clause-worth c =
    let f = c.args.test.now.by.flat.now in
    let source = c.args.test.now.by.source in
    let fleet = c.args.test.now.rule.fleet in
    let later = c.args.test.now.rule.later.now in
    let jobs = c.args.test.now.rule.jobs.now in
    let fleets = c.args.test.now.fleets.now in
    let spoken = spoken_by f source fleet later jobs c.args.ships.now c.shape-shape.ensures.limits c.requires.source_in c.requires.rule c.requires.ships in
    let slot = c.args.cut.slot in
    let P : List Lit → ℕ → Type 0 = λ clause n. IsExplanation (OverAt n jobs slot) (shape_of f) c.args.ships.now [] c.args.room.now clause in
    let Q : List Lit → Shape → Type 0 = λ clause s. IsExplanation (OverAt c.at.result jobs slot) s c.args.ships.now [] c.args.room.now clause in
    IfOk-weaker c.clause_of.result _ _
    (λ clause x. slot_explains f source c.args.test.now.by.best fleet later jobs fleets slot c.args.ships.now c.args.room.now clause c.shape-shape.ensures.limits c.requires.source_in c.requires.room c.requires.rule c.requires.fleets.tells c.requires.cut.inside spoken
    (subst (P clause) c.at.ensures.value (subst (Q clause) c.shape-shape.ensures.value x)))
    c.clause_of.ensures.worth
