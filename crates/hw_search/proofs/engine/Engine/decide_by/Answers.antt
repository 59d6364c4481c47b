use Rattle.std.proofs.Common.{◌≡◌, ◌+◌, None, subst, sym, ◌∙◌, ap}
use Rattle.hw_model.specs.declared.lit.LitTruth.TheVariants.{Free}
use Rattle.hw_model.specs.Lits.{IsLitOf}
use Rattle.hw_model.specs.Narrowing.{truth, cut}
use Rattle.hw_trail_laws.specs.declared.event.Event.{Event}
use Rattle.hw_trail_laws.specs.Trails.{room_of}
use Rattle.hw_trail_laws.proofs.Kept.{more_room}
use Rattle.hw_search_laws.specs.Settling.{AllQuiet}
use Rattle.hw_search.specs.Engines.{EngineModel}
use Rattle.hw_search_sources.specs.Marks.{MarksPlaces}
use Rattle.hw_search.proofs.Kept.{of_view}
use Rattle.hw_search.proofs.Turns.{open_in, room_to_decide, kept_decided}
use Rattle.hw_search.proofs.engine.Engine.decide_by.Goals as goal

pub changed-requires-clause-fits : goal.changed-requires-clause-fits
changed-requires-clause-fits g c =
    let o = open_in _ _ c.args.lit c.self.view_is c.self.invariant.0.search c.requires.open in
    subst (λ n. IsLitOf n c.args.lit) (sym c.self.invariant.1) o.here

pub changed-requires-clause-free : goal.changed-requires-clause-free
changed-requires-clause-free g c =
    let o = open_in _ _ c.args.lit c.self.view_is c.self.invariant.0.search c.requires.open in
    subst (λ r. truth r c.args.lit ≡ Free) (sym c.room.ensures.value) o.free

pub decide-requires-clause-fits : goal.decide-requires-clause-fits
decide-requires-clause-fits g c = (open_in _ _ c.args.lit c.self.view_is c.self.invariant.0.search c.requires.open).fits

pub decide-requires-clause-free : goal.decide-requires-clause-free
decide-requires-clause-free g c = (open_in _ _ c.args.lit c.self.view_is c.self.invariant.0.search c.requires.open).free

pub add_event-requires : goal.add_event-requires
add_event-requires g c =
    let o = open_in _ _ c.args.lit c.self.view_is c.self.invariant.0.search c.requires.open in
    let h = room_to_decide _ _ _ _ _ c.args.lit c.self.invariant.0 (of_view _ _ (λ (e : EngineModel). AllQuiet e.search) c.self.view_is c.requires.quiet) o in
    record { room = h }

pub of-requires : goal.of-requires
of-requires g c =
    let o = open_in _ _ c.args.lit c.self.view_is c.self.invariant.0.search c.requires.open in
    record { fits = subst (λ n. IsLitOf n c.args.lit) (sym c.self.invariant.0.speakers.same_ships) o.here }

pub invariant_of-self : goal.invariant_of-self
invariant_of-self g c =
    let lit = c.args.lit in
    let o = open_in _ _ lit c.self.view_is c.self.invariant.0.search c.requires.open in
    let event : Event = record { lit = lit; level = c.self.inside.trail.level + 1; why = None } in (
      kept_decided _ _ _ _ _ lit _ _ _ _ c.self.invariant.0 (of_view _ _ (λ (e : EngineModel). AllQuiet e.search) c.self.view_is c.requires.quiet) o
          c.decide.ensures.value c.changed.ensures.same c.add_event.ensures.value
          (subst (λ xs. MarksPlaces xs c.self.inside.marks c.mark.new.self) c.of.ensures.value c.mark.ensures.marks),
      c.changed.ensures.ships ∙ c.self.invariant.1,
      subst (g.S.Store.ready c.changed.new.self) (ap (cut lit) c.room.ensures.value ∙ sym (more_room c.self.inside.trail event) ∙ ap room_of (sym c.decide.ensures.value)) c.changed.ensures.ready,
      c.self.invariant.3,
    )

pub returns-clause-kept : goal.returns-clause-kept
returns-clause-kept g c =
    let o = open_in _ _ c.args.lit c.self.view_is c.self.invariant.0.search c.requires.open in
    (kept_decided _ _ _ _ _ c.args.lit _ _ _ _ c.self.invariant.0 (of_view _ _ (λ (e : EngineModel). AllQuiet e.search) c.self.view_is c.requires.quiet) o
    c.decide.ensures.value c.changed.ensures.same c.add_event.ensures.value
    (subst (λ xs. MarksPlaces xs c.self.inside.marks c.mark.new.self) c.of.ensures.value c.mark.ensures.marks)).search
