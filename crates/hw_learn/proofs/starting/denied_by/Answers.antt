use Rattle.std.proofs.Common.{◌≡◌, ◌∙◌, ℕ, All, sym, ap, subst}
use Rattle.hw_model.specs.Rooms.{RoomModel, whole_room}
use Rattle.hw_model.specs.Lits.{IsLitOf}
use Rattle.hw_trail_laws.specs.Knowing.{knows}
use Rattle.hw_trail_laws.specs.Trails.{trail_shape}
use Rattle.hw_trail_laws.specs.Passes.{DeniesAll}
use Rattle.hw_trail.proofs.Shapes.{opened_is}
use Rattle.hw_learn.proofs.starting.denied_by.Goals as goal

pub deny_all-requires : goal.deny_all-requires
deny_all-requires c =
    let whole : c.reset.new.self ≡ whole_room (trail_shape c.args.trail.now) = c.reset.ensures.whole ∙ opened_is c.args.trail.now c.room.ensures.trail _ (c.in_ok-held.ensures.value ∙ c.room.ensures.value) in
    record { fits = subst (λ (n : ℕ). All (IsLitOf n) c.args.clause.now) (sym (ap (λ (r : RoomModel). r.ships) whole)) c.requires.fits }

pub returns-clause-shape : goal.returns-clause-shape
returns-clause-shape c =
    let whole : c.reset.new.self ≡ whole_room (trail_shape c.args.trail.now) = c.reset.ensures.whole ∙ opened_is c.args.trail.now c.room.ensures.trail _ (c.in_ok-held.ensures.value ∙ c.room.ensures.value) in
    record {
      ships = c.deny_all.ensures.shape.ships ∙ ap (λ (r : RoomModel). r.ships) whole;
      slots = c.deny_all.ensures.shape.slots ∙ ap (λ (r : RoomModel). r.slots) whole;
    }

pub returns-clause-denies : goal.returns-clause-denies
returns-clause-denies c =
    let whole : c.reset.new.self ≡ whole_room (trail_shape c.args.trail.now) = c.reset.ensures.whole ∙ opened_is c.args.trail.now c.room.ensures.trail _ (c.in_ok-held.ensures.value ∙ c.room.ensures.value) in
    subst (λ (r : RoomModel). DeniesAll (knows r) (knows c.deny_all.new.held) c.args.clause.now) whole c.deny_all.ensures.denies
