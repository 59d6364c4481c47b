use Rattle.std.proofs.Common.{arith, ◌≡◌, ◌<◌, ◌∙◌, sym, ap, subst, true, length, get_or, List, IsTrue, ◌↔◌, Some}
use Rattle.hw_model.specs.declared.lit.Lit.{Lit}
use Rattle.hw_model.specs.Lits.{negation, lit_fits}
use Rattle.hw_trail_laws.specs.declared.event.Event.{Event}
use Rattle.std.proofs.lemmas.List.{get_or_default}
use Rattle.hw_trail_laws.specs.Trails.{TrailModel, trail_shape, room_before}
use Rattle.hw_trail_laws.specs.Bridge.{event_at}
use Rattle.hw_trail_laws.specs.Learning.{event_of}
use Rattle.hw_trail.specs.Bounds.{range_end, makes}
use Rattle.hw_trail.proofs.Few.{of_view}
use Rattle.hw_trail.proofs.Finds.{now_trail}
use Rattle.hw_trail.proofs.Made.{made_here}
use Rattle.hw_trail.proofs.trail.Trail.is_event_of.Goals as goal

pub returns : goal.returns
returns c =
    let m : TrailModel = record { ships = c.self.inside.ships; slots = c.self.inside.slots; events = c.self.inside.events.items; level = c.self.inside.level } in
    let lt : c.args.place < length m.events = of_view _ _ (λ (t : TrailModel). c.args.place < length t.events) c.self.view_is c.requires.place_in in
    let fits : lit_fits (trail_shape m) c.args.lit ≡ true = of_view _ _ (λ (t : TrailModel). lit_fits (trail_shape t) c.args.lit ≡ true) c.self.view_is c.requires.fits in
    let long : c.args.place < length c.self.inside.bounds.items = omega (arith, lt, c.self.invariant.1.same_length) in
    let bound : c.index.result.now ≡ range_end (room_before m c.args.place) (event_at m c.args.place).lit = c.index.ensures ∙ get_or_default c.self.inside.bounds.items c.args.place c.index.result.now 0 long ∙ c.self.invariant.1.each c.args.place lt in
    let h = made_here m c.args.place c.index.result.now c.index-event.result.now c.args.lit c.self.invariant.0.trail fits lt c.index-event.ensures bound in
    let same : c.makes.result ≡ makes c.index-event.result.now.lit c.index.result.now (negation c.args.lit) = c.makes.ensures.value ∙ ap (makes c.index-event.result.now.lit c.index.result.now) c.not.ensures in
    record {
      exactly = subst (λ (t : TrailModel). IsTrue c.makes.result ↔ (event_of t c.args.lit ≡ Some c.args.place)) c.self.view_is (subst (λ b. (b ≡ true) ↔ (event_of m c.args.lit ≡ Some c.args.place)) (sym same) h);
      trail = now_trail _ _ c.self.view_is c.self.invariant.0.trail;
    }
