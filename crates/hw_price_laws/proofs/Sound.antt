-- What prices refute holds no permitted timetable above the best.
use Rattle.std.proofs.Common.{◌≡◌, ℕ, ◌+◌, ◌*◌, ◌<◌, ◌≤◌, List, Option, Some, None, get_or, IfSome, IsSomeAnd, IsTrue, All, refl, ◌∙◌, arith, le_trans, zero-le}
use Rattle.std.proofs.lemmas.Bool.{ltb-true}
use Rattle.std.proofs.Math.Nat.{lt_of_mul-lt-mul_left}
use Rattle.hw_model.specs.Problem.{Problem, shape_of}
use Rattle.hw_model.specs.Limits.{IsFlat}
use Rattle.hw_model.specs.Timetables.{Permits, cargo, beats}
use Rattle.hw_model.specs.Rooms.{RoomModel, RoomFits, Inside, whole_room, low_of, high_of}
use Rattle.hw_model_laws.proofs.Counting.{sum_le}
use Rattle.hw_model_laws.proofs.Denials.{inside_whole}
use Rattle.hw_model_laws.proofs.Permitted.{has_cargo, at_most}
use Rattle.hw_price_laws.specs.declared.tariff.Due.{Due}
use Rattle.hw_price_laws.specs.declared.tariff.Tariff.{Tariff}
use Rattle.hw_price_laws.specs.declared.toll.Toll.{Toll}
use Rattle.hw_price_laws.specs.Tolls.{IsToll}
use Rattle.hw_price_laws.specs.Prices.{InRanges, PricesRefute, PricesBound, toll_at, usage_at, capacity_at, paid, allowance, aim}
use Rattle.hw_price_laws.specs.Laws.{RangesWithin}
use Rattle.hw_price_laws.proofs.Kept.{kept}
use Rattle.hw_price_laws.proofs.Taken.{at_number}

at_kept : (f : Problem) (o : Option Toll) (table : List ℕ) → IsFlat f → IfSome o (IsToll f) → Permits f table → usage_at f o table ≤ capacity_at o
at_kept f None table flat is permits = zero-le
at_kept f (Some toll) table flat is permits = kept f toll table flat is permits

priced : (p a b : ℕ) → a ≤ b → p * a ≤ p * b
priced p a b le = grind arith

pub paid_le : (f : Problem) (tolls : List Toll) (dues : List Due) (table : List ℕ) → IsFlat f → All (IsToll f) tolls → Permits f table → paid f tolls dues table ≤ allowance tolls dues
paid_le f tolls dues table flat all permits =
    sum_le (λ (due : Due). due.price * usage_at f (toll_at tolls due.toll) table) (λ (due : Due). due.price * capacity_at (toll_at tolls due.toll)) dues
    (λ i d lt. one (get_or dues i d))
  where
    one : (due : Due) → due.price * usage_at f (toll_at tolls due.toll) table ≤ due.price * capacity_at (toll_at tolls due.toll)
    one due = priced due.price _ _ (at_kept f (toll_at tolls due.toll) table flat (at_number (IsToll f) tolls due.toll all) permits)

above : (scale c allowed paid : ℕ) (best : Option ℕ) → scale * c + allowed < aim scale best + paid → paid ≤ allowed → IsSomeAnd best (λ b. c ≤ b)
above scale c allowed paid None short le = absurd (omega (arith, short, le))
above scale c allowed paid (Some b) short le = less scale c b (omega (arith, short, le))
  where
    less : (scale c b : ℕ) → scale * c < scale * (b + 1) → c ≤ b
    less scale c b lt = grind (arith, lt_of_mul-lt-mul_left)

pub inside_ranges : (f : Problem) (room : RoomModel) (table : List ℕ) → room.ships ≡ f.ships → Inside table room → InRanges f room table
inside_ranges f room table ships h = record { each_ship = h.each_ship ∙ ships; ranges = λ ship lt. h.ranges ship (omega (arith, lt, ships)) }

pub most_cargo : (f : Problem) (tolls : List Toll) (tariff : Tariff) (best : Option ℕ) (room : RoomModel) (table : List ℕ) (c : ℕ) → IsFlat f → All (IsToll f) tolls → room.ships ≡ f.ships → PricesRefute f tolls tariff best room → Inside table room → Permits f table → cargo f table ≡ Some c → IsSomeAnd best (λ b. c ≤ b)
most_cargo f tolls tariff best room table c flat all ships refuted inside permits e =
    above tariff.scale c (allowance tolls tariff.dues) (paid f tolls tariff.dues table) best (refuted table c (inside_ranges f room table ships inside) e) (paid_le f tolls tariff.dues table flat all permits)

pub sound : (f : Problem) (tolls : List Toll) (tariff : Tariff) (best : Option ℕ) (room : RoomModel) (table : List ℕ) → IsFlat f → All (IsToll f) tolls → RoomFits f room → PricesRefute f tolls tariff best room → Inside table room → Permits f table → IsSomeAnd best (λ b. IsSomeAnd (cargo f table) (λ c. c ≤ b))
sound f tolls tariff best room table flat all fits refuted inside permits =
    at_most best (cargo f table) (has_cargo f table permits) (λ c e. most_cargo f tolls tariff best room table c flat all fits.same_ships refuted inside permits e)

pub bounded : (f : Problem) (tolls : List Toll) (tariff : Tariff) (bound : ℕ) (table : List ℕ) (c : ℕ) → IsFlat f → All (IsToll f) tolls → PricesBound f tolls tariff bound → Permits f table → cargo f table ≡ Some c → c ≤ bound
bounded f tolls tariff bound table c flat all refuted permits e =
    most_cargo f tolls tariff (Some bound) (whole_room (shape_of f)) table c flat all refl refuted (inside_whole f table permits.listed) permits e

-- ---- another best, other ranges

aim_rises : (scale : ℕ) (best : Option ℕ) (more : ℕ) → IsTrue (beats more best) → aim scale best ≤ aim scale (Some more)
aim_rises scale None more above = zero-le
aim_rises scale (Some best) more above = priced scale (best + 1) (more + 1) (omega (arith, ltb-true best more above))

pub rising : (f : Problem) (tolls : List Toll) (tariff : Tariff) (best : Option ℕ) (more : ℕ) (room : RoomModel) → IsTrue (beats more best) → PricesRefute f tolls tariff best room → PricesRefute f tolls tariff (Some more) room
rising f tolls tariff best more room above refuted = λ table c in' e. omega (arith, refuted table c in' e, aim_rises tariff.scale best more above)

pub within : (f : Problem) (tolls : List Toll) (tariff : Tariff) (best : Option ℕ) (inner outer : RoomModel) → RangesWithin f inner outer → PricesRefute f tolls tariff best outer → PricesRefute f tolls tariff best inner
within f tolls tariff best inner outer h refuted = λ table c in' e. refuted table c (record {
  each_ship = in'.each_ship;
  ranges = λ ship lt. (le_trans (h ship lt).0 (in'.ranges ship lt).0, le_trans (in'.ranges ship lt).1 (h ship lt).1);
}) e

pub same_ranges : (f : Problem) (tolls : List Toll) (tariff : Tariff) (best : Option ℕ) (a b : RoomModel) → ((ship : ℕ) → ship < f.ships → (low_of a ship ≡ low_of b ship) × (high_of a ship ≡ high_of b ship)) → PricesRefute f tolls tariff best a → PricesRefute f tolls tariff best b
same_ranges f tolls tariff best a b same refuted = within f tolls tariff best b a (λ ship lt. (omega (arith, (same ship lt).0), omega (arith, (same ship lt).1))) refuted
