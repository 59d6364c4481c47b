use Rattle.std.proofs.Common.{ap, arith}
use Rattle.hw_model.specs.Rooms.{RoomModel}
use Rattle.hw_model.proofs.Kept.{order_room}
use Rattle.hw_flat.proofs.room.Room.put_order.Goals as goal

pub invariant_of-self : goal.invariant_of-self
invariant_of-self c =
    let same = ap (λ (r : RoomModel). r.ships) c.self.view_is in
    order_room _ c.args.v c.args.w c.args.order c.self.invariant c.requires.ascends (omega (arith, same, c.requires.ship_in))
