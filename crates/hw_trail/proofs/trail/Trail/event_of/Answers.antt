use Rattle.std.proofs.Common.{◌≡◌, ◌∙◌, sym, ap}
use Rattle.hw_model.specs.Rooms.{RoomModel}
use Rattle.hw_model.specs.Narrowing.{truth}
use Rattle.hw_trail.proofs.Made.{lit_here, none_where, not_false}
use Rattle.hw_trail.proofs.trail.Trail.event_of.Goals as goal

pub truth-requires : goal.truth-requires
truth-requires c = record { fits = lit_here c.args.self.now c.args.lit c.room.result.now c.room.ensures.trail c.requires.fits c.room.ensures.value }

pub returns-in-True : goal.returns-in-True
returns-in-True c = record {
  value = none_where c.args.self.now c.args.lit c.room.ensures.trail c.requires.fits (λ h. not_false c.truth.result c.in-True.is (c.truth.ensures.value ∙ ap (λ (r : RoomModel). truth r c.args.lit) c.room.ensures.value ∙ h));
  trail = c.room.ensures.trail;
}
