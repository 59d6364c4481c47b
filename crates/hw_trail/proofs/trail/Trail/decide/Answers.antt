use Rattle.std.proofs.Common.{arith, ◌≡◌, true, ap, ◌∙◌}
use Rattle.hw_model.specs.declared.lit.LitTruth.TheVariants.{Free}
use Rattle.hw_model.specs.Lits.{lit_fits}
use Rattle.hw_model.specs.Narrowing.{truth}
use Rattle.hw_trail_laws.specs.Trails.{TrailModel, trail_shape, room_of}
use Rattle.hw_trail.proofs.Few.{level_small, one_more, lit_in_room, decide_keeps, of_view}
use Rattle.hw_trail.specs.Bounds.{range_end}
use Rattle.hw_trail.proofs.Made.{one_bound, bounds_more}
use Rattle.hw_trail.proofs.trail.Trail.decide.Goals as goal

pub overflow_add-self : goal.overflow_add-self
overflow_add-self c = omega (arith, level_small _ _ _ c.self.invariant.0)

pub cut-requires-clause-fits : goal.cut-requires-clause-fits
cut-requires-clause-fits c = lit_in_room _ _ _ c.args.lit c.self.invariant.0 (of_view _ _ (λ (t : TrailModel). lit_fits (trail_shape t) c.args.lit ≡ true) c.self.view_is c.requires.fits)

pub range_end-requires : goal.range_end-requires
range_end-requires c = record { fits = lit_in_room _ _ _ c.args.lit c.self.invariant.0 (of_view _ _ (λ (t : TrailModel). lit_fits (trail_shape t) c.args.lit ≡ true) c.self.view_is c.requires.fits) }

pub push_reserved-requires : goal.push_reserved-requires
push_reserved-requires c =
    let h = one_bound _ _ _ c.args.lit c.self.invariant.1 c.self.invariant.0.trail (of_view _ _ (λ (t : TrailModel). lit_fits (trail_shape t) c.args.lit ≡ true) c.self.view_is c.requires.fits) (of_view _ _ (λ (t : TrailModel). truth (room_of t) c.args.lit ≡ Free) c.self.view_is c.requires.free) in
    omega (arith, h)

pub push_reserved-requires-2 : goal.push_reserved-requires-2
push_reserved-requires-2 c =
    let h = one_more _ _ _ c.args.lit c.self.invariant.0 (of_view _ _ (λ (t : TrailModel). lit_fits (trail_shape t) c.args.lit ≡ true) c.self.view_is c.requires.fits) (of_view _ _ (λ (t : TrailModel). truth (room_of t) c.args.lit ≡ Free) c.self.view_is c.requires.free) in
    omega (arith, h)

pub invariant_of-self : goal.invariant_of-self
invariant_of-self c = (
  decide_keeps _ _ _ _ _ c.args.lit _ c.self.invariant.0 (of_view _ _ (λ (t : TrailModel). lit_fits (trail_shape t) c.args.lit ≡ true) c.self.view_is c.requires.fits) (of_view _ _ (λ (t : TrailModel). truth (room_of t) c.args.lit ≡ Free) c.self.view_is c.requires.free) c.push_reserved-2.ensures.items c.cut.ensures.room c.push_reserved-2.ensures.capacity,
  bounds_more _ _ _ _ _ _ _ _ c.self.invariant.1 (c.range_end.ensures.value ∙ ap (λ r. range_end r c.args.lit) c.self.invariant.0.same_room) c.push_reserved.ensures.items c.push_reserved-2.ensures.items c.push_reserved.ensures.capacity,
)
