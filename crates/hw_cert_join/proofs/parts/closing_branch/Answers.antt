use Rattle.std.proofs.Common.{◌≡◌, ◌∙◌, ap, subst}
use Rattle.hw_model.specs.declared.shape.Shape.{Shape}
use Rattle.hw_model.specs.Limits.{ShapeFits}
use Rattle.hw_model.specs.Problem.{shape_of}
use Rattle.hw_model.specs.Rooms.{RoomModel}
use Rattle.hw_cert_closes.specs.Closing.{closes_room}
use Rattle.hw_split_text.specs.Splits.{branch_room}
use Rattle.hw_split_text.proofs.Rooms.{has_room}
use Rattle.hw_cert_join.proofs.parts.closing_branch.Goals as goal

pub closing_number-requires-clause-ships : goal.closing_number-requires-clause-ships
closing_number-requires-clause-ships c =
    let is : c.in_ok-room.room ≡ branch_room (shape_of c.args.flat.now) c.args.branch.now = c.in_ok-room.ensures ∙ ap (λ (s : Shape). branch_room s c.args.branch.now) c.shape.ensures.value in
    ap (λ (r : RoomModel). r.ships) is ∙ (has_room (shape_of c.args.flat.now) c.args.branch.now (subst ShapeFits c.shape.ensures.value c.shape.ensures.fits) c.requires.free).is_room.same_ships

pub returns : goal.returns
returns c =
    let is : c.in_ok-room.room ≡ branch_room (shape_of c.args.flat.now) c.args.branch.now = c.in_ok-room.ensures ∙ ap (λ (s : Shape). branch_room s c.args.branch.now) c.shape.ensures.value in
    c.closing_number.ensures.closes ∙ ap (λ (r : RoomModel). closes_room r c.args.lines.now) is
