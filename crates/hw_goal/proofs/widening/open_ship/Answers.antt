use Rattle.std.proofs.Common.{◌≡◌, ◌+◌, ◌≤◌, ◌<◌, ◌-◌, sym, subst, ap, arith}
use Rattle.hw_model.specs.declared.shape.Shape.{Shape}
use Rattle.hw_model.specs.Rooms.{RoomModel, RoomFits}
use Rattle.hw_model.specs.Refuting.{greatest_value, greatest_sum}
use Rattle.hw_goal.proofs.Greatest.{within_row}
use Rattle.hw_goal.proofs.Wider.{sum_wider}
use Rattle.hw_goal.proofs.widening.open_ship.Goals as goal

pub returns-clause-sum : goal.returns-clause-sum
returns-clause-sum c =
    let f = c.args.flat.now in
    let rest = c.current-now.result + c.args.spare - c.args.one.top.row in
    let last = c.shape-last.result.slots - 1 in
    let slots : c.shape-last.result.slots ≡ f.slots = ap (λ (s : Shape). s.slots) c.shape-last.ensures.value in
    let inside : last < f.slots = omega (arith, slots, c.shape-last.ensures.fits.some_slot) in
    let fits : RoomFits f c.args.denied.now = record { is_room = c.ships-ships.ensures.room; same_ships = c.requires.ships; same_slots = c.requires.slots } in
    let row : greatest_value f c.args.one.ship 0 last ≤ c.args.one.top.row = within_row f c.args.one.ship 0 last c.args.one.top c.requires.top inside in
    let P : RoomModel → Type 0 = λ d. greatest_sum f d + rest ≤ greatest_sum f c.args.denied.now + c.args.spare in
    subst P (sym c.put.ensures.room) (sum_wider f c.args.denied.now c.args.one.ship 0 last c.args.spare rest fits c.requires.ship_in (omega (arith, row, c.current-now.ensures.value, c.if-now-spare.false)))
