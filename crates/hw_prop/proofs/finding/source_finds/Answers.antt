use Rattle.std.proofs.Common.{◌<◌, sym, subst, ap, ◌∙◌}
use Rattle.std.specs.Prelude.{All}
use Rattle.hw_lits.specs.declared.found.Found.{Found}
use Rattle.std.proofs.lemmas.Result.{IfOk-weaker}
use Rattle.hw_model.specs.declared.shape.Shape.{Shape}
use Rattle.hw_model.specs.Refuting.{Refutes}
use Rattle.hw_prop.specs.Speaks.{FindsBy}
use Rattle.hw_prop.proofs.Laws.{is_local, finds_of}
use Rattle.hw_prop.proofs.Scopes.{climb_all, climb_pairs_all}
use Rattle.hw_prop.proofs.finding.source_finds.Goals as goal

pub find-requires-clause-all_ships : goal.find-requires-clause-all_ships
find-requires-clause-all_ships c =
    let P : Shape → Type 0 = λ s. All (λ v. v < s.ships) c.args.ships.now in
    subst P (sym c.shape-shape.ensures.value) (climb_all 0 c.args.test.now.flat.now.ships c.args.ships.now c.requires.spoken.climb)

pub find-requires-clause-all_pairs : goal.find-requires-clause-all_pairs
find-requires-clause-all_pairs c =
    let P : Shape → Type 0 = λ s. All (λ p. (p.0 < p.1) × (p.1 < s.ships)) c.args.pairs.now in
    subst P (sym c.shape-shape.ensures.value) (climb_pairs_all 0 0 c.args.test.now.flat.now.ships c.args.pairs.now c.requires.spoken.climb_pairs)

pub find-requires-clause-local : goal.find-requires-clause-local
find-requires-clause-local c = is_local c.args.test.now.flat.now c.args.test.now.source c.args.test.now.best c.args.ships.now c.args.pairs.now c.shape-shape.ensures.limits c.requires.spoken

pub returns : goal.returns
returns c =
    let f = c.args.test.now.flat.now in
    let Q : Found → Shape → Type 0 = λ found s. FindsBy (Refutes f c.args.test.now.source c.args.test.now.best) s c.args.ships.now c.args.pairs.now c.args.room.now found in
    record { found = IfOk-weaker c.find.result _ _ (λ found x. finds_of f c.args.test.now.source c.args.test.now.best c.args.ships.now c.args.pairs.now c.args.room.now found c.shape-shape.ensures.limits c.requires.source_in c.requires.room c.requires.spoken (subst (Q found) c.shape-shape.ensures.value x)) c.find.ensures.found; ships = c.find.ensures.ships ∙ ap (λ (s : Shape). s.ships) c.shape-shape.ensures.value; slots = c.find.ensures.slots ∙ ap (λ (s : Shape). s.slots) c.shape-shape.ensures.value }
