use Rattle.std.proofs.Common.{◌≡◌, sym, subst, ◌∙◌, ap}
use Rattle.std.specs.Prelude.{All}
use Rattle.hw_model.specs.declared.lit.LitTruth.TheVariants.{False}
use Rattle.hw_model.specs.declared.narrowing.Narrowed.TheVariants.{Cut}
use Rattle.hw_model.specs.Lits.{IsLitOf}
use Rattle.hw_model.specs.Narrowing.{truth}
use Rattle.hw_model.specs.Problem.{shape_of}
use Rattle.hw_model.specs.Replay.{narrowing}
use Rattle.hw_model.specs.Rooms.{RoomModel}
use Rattle.hw_lits.proofs.Forms.{clause_lits}
use Rattle.hw_search_laws.specs.Searches.{IsSearch, room_in}
use Rattle.hw_search.proofs.Kept.{room_here}
use Rattle.hw_search.proofs.Steps.{unit_fits}
use Rattle.hw_search_advised.proofs.Heedings.{priced_fails}
use Rattle.hw_search_advised.proofs.heeding.obey.Goals as goal

pub narrowing-requires : goal.narrowing-requires
narrowing-requires g c =
    let s = c.args.search.now in
    let is : IsSearch s = c.room.ensures.search in
    let room : c.room.result.now ≡ room_in s = c.room.ensures.value in
    let ships = ap (λ (r : RoomModel). r.ships) room ∙ (room_here s is).same_ships in
    record { fits = subst (λ n. All (IsLitOf n) c.args.clause) (sym ships) (clause_lits (shape_of s.problem) c.args.clause c.requires.clause) }

pub imply_priced-requires-clause-lit : goal.imply_priced-requires-clause-lit
imply_priced-requires-clause-lit g c =
    let s = c.args.search.now in
    let is : IsSearch s = c.room.ensures.search in
    let unit = c.in-Cut.ensures.tells in
    unit_fits s c.args.clause unit.place c.in-Cut.lit is c.requires.clause unit.stands

pub imply_priced-requires-clause-only : goal.imply_priced-requires-clause-only
imply_priced-requires-clause-only g c =
    let room : c.room.result.now ≡ room_in c.args.search.now = c.room.ensures.value in
    subst (λ r. narrowing c.args.clause r ≡ Cut c.in-Cut.lit) room (sym c.in-Cut.ensures.value)

pub returns-in-Conflict-clause-meets : goal.returns-in-Conflict-clause-meets
returns-in-Conflict-clause-meets g c =
    let s = c.args.search.now in
    let is : IsSearch s = c.room.ensures.search in
    let room : c.room.result.now ≡ room_in s = c.room.ensures.value in
    let P : RoomModel → Type 0 = λ r. All (λ lit. truth r lit ≡ False) c.args.clause in
    priced_fails s c.args.clause (g.L.Log.state c.args.log.now) is c.requires.clause c.requires.shows (subst P room c.in-Conflict.ensures.tells) c.requires.fits
