use Rattle.std.proofs.Common.{◌≡◌, true, Some, subst, sym, ◌∙◌, ap}
use Rattle.hw_model.specs.declared.lit.LitTruth.TheVariants.{Free}
use Rattle.hw_model.specs.declared.narrowing.Narrowed.TheVariants.{Cut}
use Rattle.hw_model.specs.Lits.{lit_fits, IsClause}
use Rattle.hw_model.specs.Narrowing.{truth, cut}
use Rattle.hw_model.specs.Replay.{narrowing}
use Rattle.hw_trail_laws.specs.declared.event.Event.{Event}
use Rattle.hw_trail_laws.specs.Trails.{trail_shape, reason_clause, room_of}
use Rattle.hw_trail_laws.proofs.Kept.{more_room}
use Rattle.hw_search_laws.specs.Searches.{room_in, IsReason}
use Rattle.hw_search.specs.Engines.{EngineModel}
use Rattle.hw_search_sources.specs.Marks.{MarksPlaces}
use Rattle.hw_search.proofs.Kept.{of_view, one_more, kept_implied}
use Rattle.hw_search.proofs.engine.Engine.imply.Goals as goal

pub add_event-requires : goal.add_event-requires
add_event-requires g c =
    let h = one_more _ _ _ _ _ c.args.lit c.args.why c.self.invariant.0
    (of_view _ _ (λ (e : EngineModel). lit_fits (trail_shape e.search.trail) c.args.lit ≡ true) c.self.view_is c.requires.fits)
    (of_view _ _ (λ (e : EngineModel). IsClause (trail_shape e.search.trail) (reason_clause c.args.why)) c.self.view_is c.requires.clause)
    (of_view _ _ (λ (e : EngineModel). truth (room_in e.search) c.args.lit ≡ Free) c.self.view_is c.requires.free)
    (of_view _ _ (λ (e : EngineModel). narrowing (reason_clause c.args.why) (room_in e.search) ≡ Cut c.args.lit) c.self.view_is c.requires.only)
    (of_view _ _ (λ (e : EngineModel). IsReason e.search c.args.why) c.self.view_is c.requires.reason)
    c.requires.unpriced in
    record { room = h }

pub invariant_of-self : goal.invariant_of-self
invariant_of-self g c =
    let lit = c.args.lit in
    let event : Event = record { lit = c.args.lit; level = c.self.inside.trail.level; why = Some c.args.why } in (
      kept_implied _ _ _ _ _ c.args.lit c.args.why _ _ _ _ c.self.invariant.0
          (of_view _ _ (λ (e : EngineModel). lit_fits (trail_shape e.search.trail) c.args.lit ≡ true) c.self.view_is c.requires.fits)
          (of_view _ _ (λ (e : EngineModel). IsClause (trail_shape e.search.trail) (reason_clause c.args.why)) c.self.view_is c.requires.clause)
          (of_view _ _ (λ (e : EngineModel). truth (room_in e.search) c.args.lit ≡ Free) c.self.view_is c.requires.free)
          (of_view _ _ (λ (e : EngineModel). narrowing (reason_clause c.args.why) (room_in e.search) ≡ Cut c.args.lit) c.self.view_is c.requires.only)
          (of_view _ _ (λ (e : EngineModel). IsReason e.search c.args.why) c.self.view_is c.requires.reason)
          c.requires.unpriced
          c.imply.ensures.value c.changed.ensures.same c.add_event.ensures.value
          (subst (λ xs. MarksPlaces xs c.self.inside.marks c.mark.new.self) c.of.ensures.value c.mark.ensures.marks),
      c.changed.ensures.ships ∙ c.self.invariant.1,
      subst (g.S.Store.ready c.changed.new.self) (ap (cut lit) c.room.ensures.value ∙ sym (more_room c.self.inside.trail event) ∙ ap room_of (sym c.imply.ensures.value)) c.changed.ensures.ready,
      c.self.invariant.3,
    )
