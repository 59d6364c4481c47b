use Rattle.std.proofs.Common.{◌≡◌, ◌+◌, ◌≤◌, ◌-◌, sym, subst, arith}
use Rattle.hw_model.specs.Rooms.{RoomModel, RoomFits, low_of, high_of}
use Rattle.hw_model.specs.Refuting.{greatest_value, greatest_sum}
use Rattle.hw_model_laws.proofs.Alikes.{values_alike}
use Rattle.hw_goal.proofs.Greatest.{greatest_inner, greatest_wider}
use Rattle.hw_goal.proofs.Wider.{sum_wider}
use Rattle.hw_goal.proofs.widening.widen_ship.Goals as goal

-- the value of the old range
now : (c : goal.After-greatest_value) → c.current.result ≡ greatest_value c.args.flat.now c.args.one.ship c.low-low.result c.high-high.result
now c =
    let same = values_alike c.args.flat.now c.args.one.ship (low_of c.args.denied.now c.args.one.ship) (high_of c.args.denied.now c.args.one.ship) c.low-low.result c.high-high.result c.low-low.ensures.value c.high-high.ensures.value in
    omega (arith, same, c.current.ensures.value)

-- that of the new one is within the bound
fits_in : (c : goal.After-greatest_value) → greatest_value c.args.flat.now c.args.one.ship c.lowest_within-lowest.result c.highest_within-highest.result ≤ c.current.result + c.args.spare
fits_in c =
    greatest_wider c.args.flat.now c.args.one.ship c.low-low.result c.high-high.result c.lowest_within-lowest.result c.highest_within-highest.result (c.current.result + c.args.spare)
    (omega (arith, now c)) c.lowest_within-lowest.ensures.within c.highest_within-highest.ensures.within

pub overflow_sub-result : goal.overflow_sub-result
overflow_sub-result c = omega (arith, fits_in c, c.greatest_value.ensures.value)

pub returns-clause-spared : goal.returns-clause-spared
returns-clause-spared c =
    let more = greatest_inner c.args.flat.now c.args.one.ship c.low-low.result c.high-high.result c.lowest_within-lowest.result c.highest_within-highest.result c.lowest_within-lowest.ensures.below c.highest_within-highest.ensures.above in
    omega (arith, more, now c, c.greatest_value.ensures.value)

pub returns-clause-sum : goal.returns-clause-sum
returns-clause-sum c =
    let f = c.args.flat.now in
    let rest = c.current.result + c.args.spare - c.greatest_value.result in
    let fits : RoomFits f c.args.denied.now = record { is_room = c.ships-ships.ensures.room; same_ships = c.requires.ships; same_slots = c.requires.slots } in
    let P : RoomModel → Type 0 = λ d. greatest_sum f d + rest ≤ greatest_sum f c.args.denied.now + c.args.spare in
    subst P (sym c.put.ensures.room)
    (sum_wider f c.args.denied.now c.args.one.ship c.lowest_within-lowest.result c.highest_within-highest.result c.args.spare rest fits c.requires.ship_in (omega (arith, fits_in c, c.current.ensures.value, c.greatest_value.ensures.value)))
