use Rattle.std.proofs.Common.{◌≡◌, ℕ, List, [], Some, sym, subst, ap, ◌∙◌}
use Rattle.std.specs.Prelude.{All, ◌<◌}
use Rattle.std.proofs.lemmas.Result.{IfOk-weaker}
use Rattle.hw_model.specs.declared.source.Source.TheVariants.{Goal}
use Rattle.std.specs.List.{range_with_len}
use Rattle.hw_model.specs.Problem.{Problem, shape_of}
use Rattle.hw_model.specs.Limits.{IsFlat}
use Rattle.hw_model.specs.Rooms.{RoomModel}
use Rattle.hw_model.specs.Refuting.{Refutes}
use Rattle.hw_prop.specs.Explains.{Explains}
use Rattle.hw_prop.specs.Finds.{Explanation}
use Rattle.hw_prop.specs.Plain.{plain, Climb}
use Rattle.hw_prop.specs.Reductions.{reduced, edge_of}
use Rattle.hw_prop.specs.Speaks.{SpokenOf, IsExplanation}
use Rattle.hw_prop.proofs.Laws.{explanation, is_local, of_source}
use Rattle.hw_prop.proofs.Scopes.{climb_all, spoken_of}
use Rattle.hw_prop.proofs.Widening.{reduced_explains}
use Rattle.hw_goal.proofs.stepping.goal_clause.Goals as goal

-- the goal speaks of all ships and of no order
spoken : (f : Problem) (ships : List ℕ) → IsFlat f → ships ≡ range_with_len 0 f.ships → SpokenOf f Goal ships []
spoken f ships flat is =
    let P : List ℕ → Type 0 = λ ships. SpokenOf f Goal ships [] in
    subst P (sym is) (spoken_of f Goal flat tt)

pub widen-requires-clause-explains : goal.widen-requires-clause-explains
widen-requires-clause-explains c =
    let room = c.args.room.now in
    let is : c.reduce.new.room ≡ reduced c.args.c room = c.reduce.ensures.room ∙ ap (reduced c.args.c) c.copy_from.ensures.value in
    let P : RoomModel → Type 0 = Explains (edge_of c.args.c) room in
    subst P (sym is) (reduced_explains c.args.c room c.requires.room.is_room c.requires.cut.may)

pub plain-requires-clause-all_ships : goal.plain-requires-clause-all_ships
plain-requires-clause-all_ships c =
    let P : ℕ → Type 0 = λ n. All (λ v. v < n) c.args.known.now.ships.now in
    subst P (sym c.widen.ensures.ships) (climb_all 0 c.args.known.now.flat.now.ships c.args.known.now.ships.now (spoken c.args.known.now.flat.now c.args.known.now.ships.now c.shape-shape.ensures.limits c.requires.ships).climb)

pub plain-requires-clause-ships : goal.plain-requires-clause-ships
plain-requires-clause-ships c =
    let P : ℕ → Type 0 = λ n. Climb 0 n c.args.known.now.ships.now in
    subst P (sym c.widen.ensures.ships) (spoken c.args.known.now.flat.now c.args.known.now.ships.now c.shape-shape.ensures.limits c.requires.ships).climb

pub returns-clause-worth : goal.returns-clause-worth
returns-clause-worth c =
    let f = c.args.known.now.flat.now in
    let room = c.args.room.now in
    let d = c.widen.new.denied in
    let ships = c.args.known.now.ships.now in
    let best = Some c.args.best in
    let P : ℕ → Type 0 = λ n. Climb 0 n ships in
    let told : IsExplanation (Refutes f Goal best) (shape_of f) ships [] room (plain d ships []) =
    explanation (Refutes f Goal best) (shape_of f) (edge_of c.args.c) room d ships 0 0 [] c.widen.ensures.ships c.widen.ensures.slots c.ships-ships.ensures.room c.widen.ensures.explains
    (subst P (sym c.widen.ensures.ships) (spoken c.args.known.now.flat.now c.args.known.now.ships.now c.shape-shape.ensures.limits c.requires.ships).climb) tt (is_local f Goal best ships [] c.shape-shape.ensures.limits (spoken f ships c.shape-shape.ensures.limits c.requires.ships)) c.widen.ensures.sum (λ quiet. quiet c.args.c c.requires.cut.may c.requires.cut.refuted) in
    let all : Explanation f Goal best room (plain d ships []) = of_source f Goal best ships [] room (plain d ships []) c.shape-shape.ensures.limits tt c.requires.room (spoken f ships c.shape-shape.ensures.limits c.requires.ships) told in
    IfOk-weaker c.plain.result _ _ (λ x e. subst (Explanation f Goal best room) (sym e) all) c.plain.ensures.value
