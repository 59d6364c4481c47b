-- Prices on tolls, what a room earns under them, and what they refute.
use Rattle.std.specs.Prelude.{◌≡◌, ℕ, zero, suc, ◌+◌, ◌*◌, ◌<◌, ◌≤◌, List, Option, None, Some, length, sum_by, slice_get, slice_index, All}
use Rattle.hw_model.specs.Problem.{Problem, shape_of}
use Rattle.hw_model.specs.Timetables.{cargo}
use Rattle.hw_model.specs.Rooms.{RoomModel, InRange, whole_room}
use Rattle.hw_price_laws.specs.declared.limits.TheConstants.{MOST_DUES, MOST_PRICE, MOST_SCALE}
use Rattle.hw_price_laws.specs.declared.tariff.Due.{Due}
use Rattle.hw_price_laws.specs.declared.tariff.Tariff.{Tariff}
use Rattle.hw_price_laws.specs.declared.toll.Toll.{Toll}
use Rattle.hw_price_laws.specs.Tolls.{usage, capacity}

-- the toll of this number, counted from 1
abbrev pub toll_at : List Toll → ℕ → Option Toll
toll_at tolls zero = None
toll_at tolls (suc place) = slice_get tolls place

-- the limits of a due; its toll is one of this many
pub record DueFits (tolls : ℕ) (due : Due) : Type 0 where
  pub from_one : 0 < due.toll
  pub toll_in : due.toll ≤ tolls
  pub small_price : due.price ≤ MOST_PRICE

-- the limits of a tariff on this many tolls. A scale of 0 is allowed: then the tolls alone must refute
pub record TariffFits (tolls : ℕ) (tariff : Tariff) : Type 0 where
  pub small_scale : tariff.scale ≤ MOST_SCALE
  pub few_dues : length tariff.dues ≤ MOST_DUES
  pub each_due : All (DueFits tolls) tariff.dues

-- what a timetable takes of a toll, nothing where there is none
abbrev pub usage_at : Problem → Option Toll → List ℕ → ℕ
usage_at f None table = 0
usage_at f (Some toll) table = usage f toll table

-- what a permitted timetable takes of it at most
abbrev pub capacity_at : Option Toll → ℕ
capacity_at None = 0
capacity_at (Some toll) = capacity toll

-- what a timetable pays for the dues
abbrev pub paid : Problem → List Toll → List Due → List ℕ → ℕ
paid f tolls dues table = sum_by (λ due. due.price * usage_at f (toll_at tolls due.toll) table) dues

-- what a permitted timetable pays for them at most
abbrev pub allowance : List Toll → List Due → ℕ
allowance tolls dues = sum_by (λ due. due.price * capacity_at (toll_at tolls due.toll)) dues

-- a slot of its range for each ship
pub record InRanges (f : Problem) (room : RoomModel) (table : List ℕ) : Type 0 where
  pub each_ship : length table ≡ f.ships
  pub ranges : (ship : ℕ) → ship < f.ships → InRange room ship (slice_index table ship)

-- the least that a timetable above the best gains, in parts; without a best nothing
abbrev pub aim : ℕ → Option ℕ → ℕ
aim scale None = 0
aim scale (Some best) = scale * (best + 1)

-- each list of slots of the ranges, permitted or not, that has a cargo stays below the aim: what it gains, less what it pays,
-- with the allowance added
abbrev pub PricesRefute : Problem → List Toll → Tariff → Option ℕ → RoomModel → Type 0
PricesRefute f tolls tariff best room = (table : List ℕ) (c : ℕ) → InRanges f room table → cargo f table ≡ Some c
    → tariff.scale * c + allowance tolls tariff.dues < aim tariff.scale best + paid f tolls tariff.dues table

-- the prices leave the whole problem no more than the bound
abbrev pub PricesBound : Problem → List Toll → Tariff → ℕ → Type 0
PricesBound f tolls tariff bound = PricesRefute f tolls tariff (Some bound) (whole_room (shape_of f))
