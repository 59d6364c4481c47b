use Rattle.std.proofs.Common.{◌≡◌, ◌≤◌, ℕ, ◌∙◌, ap, length, take, filter, nat_le, List}
use Rattle.hw_trail_laws.specs.declared.event.Event.{Event}
use Rattle.hw_trail_laws.specs.Trails.{TrailModel, back_to, room_of}
use Rattle.hw_trail.specs.Kept.{trail_in}
use Rattle.hw_trail.proofs.Few.{of_view}
use Rattle.hw_trail.proofs.Returns.{back_is, back_keeps, same_back, bounds_back}
use Rattle.hw_trail.proofs.trail.Trail.back_to.Goals as goal

pub cut_all-requires-clause-trail : goal.cut_all-requires-clause-trail
cut_all-requires-clause-trail c =
    let kept : c.truncate.new.self.items ≡ take (length (filter (λ (event : Event). nat_le event.level c.args.level) c.self.inside.events.items)) c.self.inside.events.items =
    c.truncate.ensures.items ∙ ap (λ (n : ℕ). take n c.self.inside.events.items) (c.count_upto-kept.ensures.value ∙ ap (λ (es : List Event). length (filter (λ (event : Event). nat_le event.level c.args.level) es)) c.deref.ensures.value) in
    back_is _ _ _ c.args.level _ c.reset.new.self c.self.invariant.0 (of_view _ _ (λ (t : TrailModel). c.args.level ≤ t.level) c.self.view_is c.requires.below) (c.deref-2.ensures.value ∙ kept) c.reset.ensures.whole

pub invariant_of-self : goal.invariant_of-self
invariant_of-self c =
    let kept : c.truncate.new.self.items ≡ take (length (filter (λ (event : Event). nat_le event.level c.args.level) c.self.inside.events.items)) c.self.inside.events.items =
    c.truncate.ensures.items ∙ ap (λ (n : ℕ). take n c.self.inside.events.items) (c.count_upto-kept.ensures.value ∙ ap (λ (es : List Event). length (filter (λ (event : Event). nat_le event.level c.args.level) es)) c.deref.ensures.value) in (
      back_keeps _ _ _ _ c.args.level c.truncate.new.self.items c.reset.new.self c.cut_all.new.room c.self.invariant.0 (of_view _ _ (λ (t : TrailModel). c.args.level ≤ t.level) c.self.view_is c.requires.below) kept c.reset.ensures.whole (c.cut_all.ensures.room ∙ ap (λ (es : List Event). room_of (trail_in c.reset.new.self es c.args.level)) c.deref-2.ensures.value) c.truncate.ensures.capacity,
      bounds_back _ _ _ _ c.args.level c.truncate.new.self.items c.truncate-2.new.self.items c.self.invariant.1 c.self.invariant.0.trail kept (c.truncate-2.ensures.items ∙ ap (λ (n : ℕ). take n c.self.inside.bounds.items) (c.count_upto-kept.ensures.value ∙ ap (λ (es : List Event). length (filter (λ (event : Event). nat_le event.level c.args.level) es)) c.deref.ensures.value)) c.truncate-2.ensures.capacity,
    )

pub returns : goal.returns
returns c =
    let kept : c.truncate.new.self.items ≡ take (length (filter (λ (event : Event). nat_le event.level c.args.level) c.self.inside.events.items)) c.self.inside.events.items =
    c.truncate.ensures.items ∙ ap (λ (n : ℕ). take n c.self.inside.events.items) (c.count_upto-kept.ensures.value ∙ ap (λ (es : List Event). length (filter (λ (event : Event). nat_le event.level c.args.level) es)) c.deref.ensures.value) in
    record { value = same_back _ c.args.level c.truncate.new.self.items c.self.invariant.0.trail kept ∙ ap (λ (t : TrailModel). back_to t c.args.level) c.self.view_is }
