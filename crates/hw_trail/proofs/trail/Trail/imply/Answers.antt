use Rattle.std.proofs.Common.{arith, ◌≡◌, true, ap, ◌∙◌}
use Rattle.hw_model.specs.declared.lit.LitTruth.TheVariants.{Free}
use Rattle.hw_model.specs.declared.narrowing.Narrowed.TheVariants.{Cut}
use Rattle.hw_model.specs.Lits.{lit_fits, IsClause}
use Rattle.hw_model.specs.Narrowing.{truth}
use Rattle.hw_model.specs.Replay.{narrowing}
use Rattle.hw_trail_laws.specs.Trails.{TrailModel, trail_shape, reason_clause, room_of}
use Rattle.hw_trail.proofs.Few.{one_more, lit_in_room, imply_keeps, of_view}
use Rattle.hw_trail.specs.Bounds.{range_end}
use Rattle.hw_trail.proofs.Made.{one_bound, bounds_more}
use Rattle.hw_trail.proofs.trail.Trail.imply.Goals as goal

pub cut-requires-clause-fits : goal.cut-requires-clause-fits
cut-requires-clause-fits c = lit_in_room _ _ _ c.args.lit c.self.invariant.0 (of_view _ _ (λ (t : TrailModel). lit_fits (trail_shape t) c.args.lit ≡ true) c.self.view_is c.requires.fits)

pub range_end-requires : goal.range_end-requires
range_end-requires c = record { fits = lit_in_room _ _ _ c.args.lit c.self.invariant.0 (of_view _ _ (λ (t : TrailModel). lit_fits (trail_shape t) c.args.lit ≡ true) c.self.view_is c.requires.fits) }

pub push_reserved-requires : goal.push_reserved-requires
push_reserved-requires c =
    let h = one_bound _ _ _ c.args.lit c.self.invariant.1 c.self.invariant.0.trail (of_view _ _ (λ (t : TrailModel). lit_fits (trail_shape t) c.args.lit ≡ true) c.self.view_is c.requires.fits) (of_view _ _ (λ (t : TrailModel). truth (room_of t) c.args.lit ≡ Free) c.self.view_is c.requires.free) in
    omega (arith, h)

pub push_reserved-requires-2 : goal.push_reserved-requires-2
push_reserved-requires-2 c =
    let h = one_more _ _ _ c.args.lit c.self.invariant.0 (of_view _ _ (λ (t : TrailModel). lit_fits (trail_shape t) c.args.lit ≡ true) c.self.view_is c.requires.fits) (of_view _ _ (λ (t : TrailModel). truth (room_of t) c.args.lit ≡ Free) c.self.view_is c.requires.free) in
    omega (arith, h)

pub invariant_of-self : goal.invariant_of-self
invariant_of-self c = (
  imply_keeps _ _ _ _ _ c.args.lit c.args.why _ c.self.invariant.0
      (of_view _ _ (λ (t : TrailModel). lit_fits (trail_shape t) c.args.lit ≡ true) c.self.view_is c.requires.fits)
      (of_view _ _ (λ (t : TrailModel). IsClause (trail_shape t) (reason_clause c.args.why)) c.self.view_is c.requires.clause_fits)
      (of_view _ _ (λ (t : TrailModel). truth (room_of t) c.args.lit ≡ Free) c.self.view_is c.requires.free)
      (of_view _ _ (λ (t : TrailModel). narrowing (reason_clause c.args.why) (room_of t) ≡ Cut c.args.lit) c.self.view_is c.requires.only)
      c.push_reserved-2.ensures.items c.cut.ensures.room c.push_reserved-2.ensures.capacity,
  bounds_more _ _ _ _ _ _ _ _ c.self.invariant.1 (c.range_end.ensures.value ∙ ap (λ r. range_end r c.args.lit) c.self.invariant.0.same_room) c.push_reserved.ensures.items c.push_reserved-2.ensures.items c.push_reserved.ensures.capacity,
)
