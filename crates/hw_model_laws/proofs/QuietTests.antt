-- The test of a quiet source computes it.
use Rattle.std.proofs.Common.{◌≡◌, ◌↔◌, ℕ, ◌<◌, Bool, true, false, not, ◌&&◌, ◌||◌, Option, IsTrue, refl, arith}
use Rattle.std.proofs.lemmas.Bool.{not-true, both_ways, and_parts, and_from}
use Rattle.std.specs.List.{list_all, range_with_len}
use Rattle.hw_model.specs.declared.order.Order.{Order}
use Rattle.hw_model.specs.declared.order.Order.TheVariants.{Unset, First, NotFirst}
use Rattle.hw_model.specs.declared.source.Source.{Source}
use Rattle.hw_model.specs.Problem.{Problem}
use Rattle.hw_model.specs.Rooms.{RoomModel, order_of}
use Rattle.hw_model.specs.Narrowing.{with_order}
use Rattle.hw_model.specs.Refuting.{Refutes}
use Rattle.hw_model.specs.RefutingComputed.{refutes}
use Rattle.hw_model.specs.Quiet.{QuietSource, names_order}
use Rattle.hw_model_laws.specs.Computed.{is_unset, quiet_ends, quiet_order, quiet}
use Rattle.hw_model_laws.proofs.Counting.{all_of_range, range_all}
use Rattle.hw_model_laws.proofs.Tested.{tested, tests}

-- a test that is not met, and what it computes
never : (f : Problem) (source : Source) (best : Option ℕ) (room : RoomModel) → not (refutes f source best room) ≡ true → Refutes f source best room → ⊥
never f source best room e h = both_ways _ (not-true _ e) (tests f source best room h)

not_met : (b : Bool) → (b ≡ true → ⊥) → not b ≡ true
not_met true h = absurd (h refl)
not_met false h = refl

from_never : (f : Problem) (source : Source) (best : Option ℕ) (room : RoomModel) → (Refutes f source best room → ⊥) → not (refutes f source best room) ≡ true
from_never f source best room h = not_met _ (λ e. h (tested f source best room e))

unset_is : (o : Order) → o ≡ Unset → is_unset o ≡ true
unset_is Unset e = refl
unset_is First e = absurd cc
unset_is NotFirst e = absurd cc

is_open : (o : Order) → is_unset o ≡ true → o ≡ Unset
is_open Unset e = refl
is_open First e = absurd cc
is_open NotFirst e = absurd cc

neither : (a b : Bool) → not a || b ≡ true → a ≡ true → b ≡ true
neither true b e h = e
neither false b e h = absurd cc

unless : (a b : Bool) → (a ≡ true → b ≡ true) → not a || b ≡ true
unless true b h = h refl
unless false b h = refl

order_from : (f : Problem) (source : Source) (best : Option ℕ) (room : RoomModel) (v w : ℕ) → quiet_order f source best room v w ≡ true → IsTrue (names_order f source v w) → order_of room v w ≡ Unset → (Refutes f source best (with_order room v w First) → ⊥) × (Refutes f source best (with_order room v w NotFirst) → ⊥)
order_from f source best room v w e named unset =
    let p = and_parts _ _ (neither (names_order f source v w && is_unset (order_of room v w)) _ e (and_from _ _ named (unset_is _ unset))) in
    (never f source best (with_order room v w First) p.0, never f source best (with_order room v w NotFirst) p.1)

pub quiet_from : (f : Problem) (source : Source) (best : Option ℕ) (room : RoomModel) → quiet f source best room ≡ true → QuietSource f source best room
quiet_from f source best room e =
    let p = and_parts (not (refutes f source best room)) _ e in
    let q = and_parts (list_all (quiet_ends f source best room) (range_with_len 0 f.ships)) _ p.1 in
    let ends : (ship : ℕ) → ship < f.ships → quiet_ends f source best room ship ≡ true = λ ship lt. all_of_range (quiet_ends f source best room) 0 f.ships q.0 ship (omega arith) (omega (arith, lt)) in
    let order : (v w : ℕ) → v < w → w < f.ships → quiet_order f source best room v w ≡ true = λ v w vw lt.
    all_of_range (λ v. quiet_order f source best room v w) 0 w (all_of_range (λ w. list_all (λ v. quiet_order f source best room v w) (range_with_len 0 w)) 0 f.ships q.1 w (omega arith) (omega (arith, lt))) v (omega arith) (omega (arith, vw)) in
    record {
      here = never f source best room p.0;
      at_low = λ ship lt. never f source best _ (and_parts _ _ (ends ship lt)).0;
      at_high = λ ship lt. never f source best _ (and_parts _ _ (ends ship lt)).1;
      set_first = λ v w vw lt named unset. (order_from f source best room v w (order v w vw lt) named unset).0;
      set_not_first = λ v w vw lt named unset. (order_from f source best room v w (order v w vw lt) named unset).1;
    }

pub from_quiet : (f : Problem) (source : Source) (best : Option ℕ) (room : RoomModel) → QuietSource f source best room → quiet f source best room ≡ true
from_quiet f source best room h =
    and_from _ _ (from_never f source best room h.here)
    (and_from _ _
    (range_all (quiet_ends f source best room) 0 f.ships (λ ship from lt. and_from _ _ (from_never f source best _ (h.at_low ship (omega (arith, lt)))) (from_never f source best _ (h.at_high ship (omega (arith, lt))))))
    (range_all (λ w. list_all (λ v. quiet_order f source best room v w) (range_with_len 0 w)) 0 f.ships (λ w from lt. range_all (λ v. quiet_order f source best room v w) 0 w (λ v from' vw. one v w (omega (arith, vw)) (omega (arith, lt))))))
  where
    one : (v w : ℕ) → v < w → w < f.ships → quiet_order f source best room v w ≡ true
    one v w vw lt = unless (names_order f source v w && is_unset (order_of room v w)) _ (λ e.
        let p = and_parts (names_order f source v w) _ e in
        let unset = is_open _ p.1 in
        and_from _ _ (from_never f source best _ (h.set_first v w vw lt p.0 unset)) (from_never f source best _ (h.set_not_first v w vw lt p.0 unset)))

pub quiet_tested : (f : Problem) (source : Source) (best : Option ℕ) (room : RoomModel) → (IsTrue (quiet f source best room) ↔ QuietSource f source best room)
quiet_tested f source best room = (quiet_from f source best room, from_quiet f source best room)
