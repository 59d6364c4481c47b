use Rattle.std.proofs.Common.{◌≡◌, sym, subst, ◌∙◌, ap}
use Rattle.std.specs.Prelude.{All, List}
use Rattle.hw_model.specs.declared.lit.Lit.{Lit}
use Rattle.hw_model.specs.declared.lit.LitTruth.TheVariants.{Free}
use Rattle.hw_model.specs.declared.narrowing.Narrowed.TheVariants.{Cut}
use Rattle.hw_model.specs.Lits.{IsClause, IsLitOf}
use Rattle.hw_model.specs.Narrowing.{truth}
use Rattle.hw_model.specs.Problem.{shape_of}
use Rattle.hw_model.specs.Replay.{narrowing}
use Rattle.hw_model.specs.Rooms.{RoomModel}
use Rattle.hw_lits.proofs.Forms.{clause_lits}
use Rattle.hw_trail_laws.specs.Trails.{reason_clause}
use Rattle.hw_search_laws.specs.Searches.{IsSearch, room_in}
use Rattle.hw_search_laws.proofs.Holds.{problem_clause}
use Rattle.hw_search.specs.Engines.{EngineModel}
use Rattle.hw_search.proofs.Kept.{room_here}
use Rattle.hw_search.proofs.Steps.{unit_fits, gains_one}
use Rattle.hw_search.proofs.engine.Engine.take.Goals as goal
use Rattle.hw_search.proofs.engine.Engine.take.Given as given

pub narrowing-requires : goal.narrowing-requires
narrowing-requires g c =
    let s = c.args.self.now.search in
    let is : IsSearch s = subst (λ (e : EngineModel). IsSearch e.search) c.self.view_is c.self.invariant.0.search in
    let room : c.room.result.now ≡ room_in s = c.room.ensures.value ∙ ap (λ (e : EngineModel). room_in e.search) c.self.view_is in
    let P : List Lit → RoomModel → Type 0 = λ clause r. All (IsLitOf r.ships) clause in
    let ships = ap (λ (r : RoomModel). r.ships) room ∙ (room_here s is).same_ships in
    record { fits = subst (λ clause. All (IsLitOf c.room.result.now.ships) clause) (sym c.clause_of.ensures.value) (subst (λ n. All (IsLitOf n) (reason_clause c.args.why)) (sym ships) (clause_lits (shape_of s.problem) (reason_clause c.args.why) c.requires.fits)) }

in_room : (g : given.Over) (c : goal.After-imply-arg-1 g) → c.room.result.now ≡ room_in c.args.self.now.search
in_room g c = c.room.ensures.value ∙ ap (λ (e : EngineModel). room_in e.search) c.self.view_is

pub imply-requires-clause-fits : goal.imply-requires-clause-fits
imply-requires-clause-fits g c =
    let s = c.args.self.now.search in
    let is : IsSearch s = subst (λ (e : EngineModel). IsSearch e.search) c.self.view_is c.self.invariant.0.search in
    let unit = c.in-Cut.ensures.tells in
    unit_fits s c.clause_of.result.now unit.place c.in-Cut.lit is (subst (IsClause (shape_of s.problem)) (sym c.clause_of.ensures.value) c.requires.fits) unit.stands

pub imply-requires-clause-only : goal.imply-requires-clause-only
imply-requires-clause-only g c =
    subst (λ r. narrowing (reason_clause c.args.why) r ≡ Cut c.in-Cut.lit) (in_room g c) (subst (λ clause. narrowing clause c.room.result.now ≡ Cut c.in-Cut.lit) c.clause_of.ensures.value (sym c.in-Cut.ensures.value))

pub returns-in-Cut-clause-meets : goal.returns-in-Cut-clause-meets
returns-in-Cut-clause-meets g c =
    let s = c.args.self.now.search in
    let lit = c.in-Cut.lit in
    let is : IsSearch s = subst (λ (e : EngineModel). IsSearch e.search) c.self.view_is c.self.invariant.0.search in
    let unit = c.in-Cut.ensures.tells in
    let room : c.room.result.now ≡ room_in s = c.room.ensures.value ∙ ap (λ (e : EngineModel). room_in e.search) c.self.view_is in
    let fits = unit_fits s c.clause_of.result.now unit.place c.in-Cut.lit is (subst (IsClause (shape_of s.problem)) (sym c.clause_of.ensures.value) c.requires.fits) unit.stands in
    let free : truth (room_in s) c.in-Cut.lit ≡ Free = subst (λ r. truth r c.in-Cut.lit ≡ Free) room unit.free in
    let only : narrowing (reason_clause c.args.why) (room_in s) ≡ Cut c.in-Cut.lit = subst (λ r. narrowing (reason_clause c.args.why) r ≡ Cut c.in-Cut.lit) room (subst (λ clause. narrowing clause c.room.result.now ≡ Cut c.in-Cut.lit) c.clause_of.ensures.value (sym c.in-Cut.ensures.value)) in
    gains_one s c.imply.new.self.search c.in-Cut.lit c.args.why is fits (problem_clause s is.same_ships is.same_slots (reason_clause c.args.why) c.requires.fits) free only c.requires.reason c.requires.unpriced c.imply.ensures.search
