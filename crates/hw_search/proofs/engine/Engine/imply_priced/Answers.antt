use Rattle.std.proofs.Common.{Some, sym, ap, ◌∙◌, subst}
use Rattle.std.proofs.lemmas.Result.{err_from_is_err_and}
use Rattle.hw_model.specs.Narrowing.{cut}
use Rattle.hw_trail_laws.specs.declared.event.Event.{Event}
use Rattle.hw_trail_laws.specs.declared.event.Why.TheVariants as whys
use Rattle.hw_trail_laws.specs.Trails.{room_of}
use Rattle.hw_trail_laws.proofs.Kept.{more_room}
use Rattle.hw_search_laws.specs.Searches.{SearchModel, IsSearch}
use Rattle.hw_search_laws.specs.Advised.{Heeds}
use Rattle.hw_search.specs.Engines.{EngineModel}
use Rattle.hw_search_sources.specs.Marks.{MarksPlaces}
use Rattle.hw_search.proofs.Kept.{kept_priced, one_priced}
use Rattle.hw_search.proofs.Heard.{IsNewCut, cut_here, cut_number, cut_search, cut_is, cut_heeds, cut_stops}
use Rattle.hw_search.proofs.engine.Engine.imply_priced.Goals as goal

pub returns-in_err-hand_priced-clause-heeds : goal.returns-in_err-hand_priced-clause-heeds
returns-in_err-hand_priced-clause-heeds g c =
    let p = err_from_is_err_and c.from_residual.result c.from_residual.ensures.1 in
    let s = c.args.self.now.search in
    let is : IsSearch s = subst (λ (e : EngineModel). IsSearch e.search) c.self.view_is c.self.invariant.0.search in
    let r = c.requires in
    let of : IsNewCut s c.args.lit c.args.clause = record { clause_fits = r.clause; shows = r.shows; fits = r.lit; free = r.free; only = r.only; going = r.going; few = r.few; few_priced = r.few_priced } in
    rw (p.1, p.2) (cut_stops s c.args.lit c.args.clause c.in_err-hand_priced.field-0.0 (g.L.Log.state c.args.log.now) (g.L.Log.state c.hand_priced.new.log) is of r.fits c.in_err-hand_priced.ensures.stops)

pub add_written-requires-clause-room : goal.add_written-requires-clause-room
add_written-requires-clause-room g c =
    let r = c.requires in
    let of : IsNewCut c.args.self.now.search c.args.lit c.args.clause = record { clause_fits = r.clause; shows = r.shows; fits = r.lit; free = r.free; only = r.only; going = r.going; few = r.few; few_priced = r.few_priced } in
    one_priced _ _ _ _ _ c.args.lit c.args.clause c.self.invariant.0 (cut_search _ c.args.lit c.args.clause c.self.invariant.0.search (cut_here _ _ c.args.lit c.args.clause c.self.view_is of))

pub add_written-requires-clause-few : goal.add_written-requires-clause-few
add_written-requires-clause-few g c =
    let r = c.requires in
    let of : IsNewCut c.args.self.now.search c.args.lit c.args.clause = record { clause_fits = r.clause; shows = r.shows; fits = r.lit; free = r.free; only = r.only; going = r.going; few = r.few; few_priced = r.few_priced } in
    cut_number _ c.args.lit c.args.clause c.self.invariant.0.search (cut_here _ _ c.args.lit c.args.clause c.self.view_is of)

pub invariant_of-self : goal.invariant_of-self
invariant_of-self g c =
    let r = c.requires in
    let lit = c.args.lit in
    let event : Event = record { lit = lit; level = c.self.inside.trail.level; why = Some (whys.Priced c.args.clause) } in
    let of : IsNewCut c.args.self.now.search lit c.args.clause = record { clause_fits = r.clause; shows = r.shows; fits = r.lit; free = r.free; only = r.only; going = r.going; few = r.few; few_priced = r.few_priced } in
    let here = cut_here _ _ lit c.args.clause c.self.view_is of in (
      kept_priced _ _ _ _ _ lit c.args.clause _ _ _ _ c.self.invariant.0 here.fits here.free (cut_search _ lit c.args.clause c.self.invariant.0.search here)
          c.imply.ensures.value c.changed.ensures.same c.add_written.ensures.value
          (subst (λ xs. MarksPlaces xs c.self.inside.marks c.mark.new.self) c.of.ensures.value c.mark.ensures.marks),
      c.changed.ensures.ships ∙ c.self.invariant.1,
      subst (g.S.Store.ready c.changed.new.self) (ap (cut lit) c.room.ensures.value ∙ sym (more_room c.self.inside.trail event) ∙ ap room_of (sym c.imply.ensures.value)) c.changed.ensures.ready,
      c.self.invariant.3,
    )

pub returns-clause-heeds : goal.returns-clause-heeds
returns-clause-heeds g c =
    let s = c.args.self.now.search in
    let old = g.L.Log.state c.args.log.now in
    let new = g.L.Log.state c.hand_priced.new.log in
    let is : IsSearch s = subst (λ (e : EngineModel). IsSearch e.search) c.self.view_is c.self.invariant.0.search in
    let r = c.requires in
    let of : IsNewCut s c.args.lit c.args.clause = record { clause_fits = r.clause; shows = r.shows; fits = r.lit; free = r.free; only = r.only; going = r.going; few = r.few; few_priced = r.few_priced } in
    subst (λ (x : SearchModel). Heeds s x old new) (sym (cut_is _ _ c.args.lit c.args.clause _ _ _ _ c.self.view_is c.imply.ensures.value c.changed.ensures.same c.add_written.ensures.value)) (cut_heeds s c.args.lit c.args.clause old new is of r.fits c.in_ok-hand_priced.ensures.hands)
