-- The laws of tolls and prices.
use Rattle.std.specs.Prelude.{◌≡◌, ◌↔◌, ◌⊎◌, ℕ, ◌+◌, ◌*◌, ◌/◌, ◌<◌, ◌≤◌, nat_le, nat_lt, ◌&&◌, if◌then◌else◌, List, [], ◌∷◌, ◌++◌, Option, Some, length, map, sum, count_by, slice_get, slice_index, All, IsTrue, IsSomeAnd}
use Rattle.hw_model.specs.declared.rule.Job.{Job}
use Rattle.hw_model.specs.declared.rule.Rule.TheVariants as rules
use Rattle.hw_model.specs.declared.rule.Step.{Step}
use Rattle.hw_model.specs.declared.source.Source.TheVariants as sources
use Rattle.hw_model.specs.Problem.{Problem, value_at, horizon}
use Rattle.hw_model.specs.Limits.{IsFlat}
use Rattle.hw_model.specs.Rules.{fleet_in}
use Rattle.hw_model.specs.Timetables.{Permits, cargo, beats}
use Rattle.hw_model.specs.Rooms.{RoomModel, RoomFits, Inside, InRange, low_of, high_of}
use Rattle.hw_model.specs.Narrowing.{with_range}
use Rattle.hw_model.specs.Refuting.{Refutes}
use Rattle.hw_price_laws.specs.declared.tariff.Balance.{Balance}
use Rattle.hw_price_laws.specs.declared.tariff.Tariff.{Tariff}
use Rattle.hw_price_laws.specs.declared.toll.Block.{Block}
use Rattle.hw_price_laws.specs.declared.toll.Toll.{Toll}
use Rattle.hw_price_laws.specs.declared.toll.Toll.TheVariants.{Narrows, Tugs}
use Rattle.hw_price_laws.specs.Tolls.{IsToll, rule_at, usage, capacity, lies_in}
use Rattle.hw_price_laws.specs.Prices.{TariffFits, PricesRefute, PricesBound}
use Rattle.hw_price_laws.specs.Computed.{pays, best_balance, best_balances, prices_refute}
use Rattle.hw_price_laws.specs.Judged.{is_toll}

-- the weights of the jobs that hold their tugs in a slot, 0 of the others
abbrev pub held_weights : List ℕ → ℕ → List ℕ → List Job → List ℕ
held_weights table slot [] jobs = []
held_weights table slot (weight ∷ weights) [] = []
held_weights table slot (weight ∷ weights) (job ∷ jobs) = (if nat_le (slice_index table job.ship) slot && nat_lt slot (slice_index table job.ship + job.hold) then weight else 0) ∷ held_weights table slot weights jobs

-- a permitted timetable takes at most the capacity
abbrev pub TollKept : Type 0
TollKept = (f : Problem) (toll : Toll) (table : List ℕ) → IsFlat f → IsToll f toll → Permits f table → usage f toll table ≤ capacity toll

-- the test is true exactly of the tolls of the problem
abbrev pub TollJudged : Type 0
TollJudged = (f : Problem) (toll : Toll) → (IsTrue (is_toll f toll) ↔ IsToll f toll)

-- of narrows it takes the blocks that hold their ships' slots, of tugs the weights of the jobs that hold theirs
pub record TollUsage : Type 0 where
  pub narrows : (f : Problem) (blocks : List Block) (table : List ℕ) → usage f (Narrows blocks) table ≡ count_by (λ b. lies_in b.low b.high (slice_index table b.ship)) blocks
  pub tugs : (f : Problem) (n slot most fleet : ℕ) (later : List Step) (weights : List ℕ) (jobs : List Job) (table : List ℕ) → rule_at f n ≡ Some (rules.Tugs fleet later jobs)
      → usage f (Tugs n slot weights most) table ≡ sum (held_weights table slot weights jobs)

-- whole teams of this many tugs, counted for each job, are such weights in a slot, and so are the tugs themselves
abbrev pub TeamsAreTolls : Type 0
TeamsAreTolls = (f : Problem) (place slot team fleet : ℕ) (later : List Step) (jobs : List Job) → IsFlat f → slot < horizon f → 1 ≤ team → slice_get f.rules place ≡ Some (rules.Tugs fleet later jobs)
    → IsToll f (Tugs (f.ships + place) slot (map (λ job. job.tugs / team) jobs) (fleet_in fleet later slot / team))

-- inside a refuted room a permitted timetable has at most the best cargo, and without a best there is none
abbrev pub SoundPrices : Type 0
SoundPrices = (f : Problem) (tolls : List Toll) (tariff : Tariff) (best : Option ℕ) (room : RoomModel) (table : List ℕ) → IsFlat f → All (IsToll f) tolls → RoomFits f room
    → PricesRefute f tolls tariff best room → Inside table room → Permits f table → IsSomeAnd best (λ b. IsSomeAnd (cargo f table) (λ c. c ≤ b))

-- no permitted timetable carries more than the bound
abbrev pub SoundBound : Type 0
SoundBound = (f : Problem) (tolls : List Toll) (tariff : Tariff) (bound : ℕ) (table : List ℕ) (c : ℕ) → IsFlat f → All (IsToll f) tolls → PricesBound f tolls tariff bound → Permits f table → cargo f table ≡ Some c → c ≤ bound

-- what is refuted under a best is refuted under a better one
abbrev pub RisingPrices : Type 0
RisingPrices = (f : Problem) (tolls : List Toll) (tariff : Tariff) (best : Option ℕ) (more : ℕ) (room : RoomModel) → IsTrue (beats more best) → PricesRefute f tolls tariff best room → PricesRefute f tolls tariff (Some more) room

-- the ranges of the first room lie inside those of the second
abbrev pub RangesWithin : Problem → RoomModel → RoomModel → Type 0
RangesWithin f inner outer = (ship : ℕ) → ship < f.ships → (low_of outer ship ≤ low_of inner ship) × (high_of inner ship ≤ high_of outer ship)

-- rooms of the same ranges are refuted alike
abbrev pub OnlyRanges : Type 0
OnlyRanges = (f : Problem) (tolls : List Toll) (tariff : Tariff) (best : Option ℕ) (a b : RoomModel) → ((ship : ℕ) → ship < f.ships → (low_of a ship ≡ low_of b ship) × (high_of a ship ≡ high_of b ship)) → PricesRefute f tolls tariff best a → PricesRefute f tolls tariff best b

-- what is refuted stays so with narrower ranges
abbrev pub PricesWithin : Type 0
PricesWithin = (f : Problem) (tolls : List Toll) (tariff : Tariff) (best : Option ℕ) (inner outer : RoomModel) → RangesWithin f inner outer → PricesRefute f tolls tariff best outer → PricesRefute f tolls tariff best inner

-- more tolls at the end change nothing
abbrev pub MoreTolls : Type 0
MoreTolls = (f : Problem) (tolls more : List Toll) (tariff : Tariff) (best : Option ℕ) (room : RoomModel) → TariffFits (length tolls) tariff → (PricesRefute f (tolls ++ more) tariff best room ↔ PricesRefute f tolls tariff best room)

-- the ship has a value in the other slot too, and less what it pays it gains there at least as much
pub record EarnsLess (f : Problem) (tolls : List Toll) (tariff : Tariff) (ship slot other value : ℕ) : Type 0 where
  pub other_value : ℕ
  pub told : value_at f ship other ≡ Some other_value
  pub less : tariff.scale * value + pays f tolls tariff.dues ship other ≤ tariff.scale * other_value + pays f tolls tariff.dues ship slot

-- wider ranges whose slots each earn no more than a slot of the narrower ones are refuted with these
abbrev pub WiderPrices : Type 0
WiderPrices = (f : Problem) (tolls : List Toll) (tariff : Tariff) (best : Option ℕ) (inner outer : RoomModel) → IsFlat f → All (IsToll f) tolls
    → ((ship slot value : ℕ) → ship < f.ships → InRange outer ship slot → value_at f ship slot ≡ Some value → (other : ℕ) × InRange inner ship other × EarnsLess f tolls tariff ship slot other value)
    → PricesRefute f tolls tariff best inner → PricesRefute f tolls tariff best outer

-- without dues and with a scale, the goal or a window refutes the room
abbrev pub WithoutDues : Type 0
WithoutDues = (f : Problem) (tolls : List Toll) (tariff : Tariff) (best : Option ℕ) (room : RoomModel) → RoomFits f room → 1 ≤ tariff.scale → tariff.dues ≡ []
    → (PricesRefute f tolls tariff best room ↔ (Refutes f sources.Goal best room ⊎ ((ship : ℕ) × (ship < f.ships) × Refutes f (sources.Window ship) best room)))

-- the test computes whether prices refute
abbrev pub PricesComputed : Type 0
PricesComputed = (f : Problem) (tolls : List Toll) (tariff : Tariff) (best : Option ℕ) (room : RoomModel) → IsFlat f → All (IsToll f) tolls → (IsTrue (prices_refute f tolls tariff best room) ↔ PricesRefute f tolls tariff best room)

-- the balances lose the ship's old best one and gain its new one
pub record Changed (total one other changed : Balance) : Type 0 where
  pub gain : changed.gain + one.gain ≡ total.gain + other.gain
  pub cost : changed.cost + one.cost ≡ total.cost + other.cost

-- where one range is set, the balances change by that ship's alone
abbrev pub BalanceChanged : Type 0
BalanceChanged = (f : Problem) (tolls : List Toll) (tariff : Tariff) (room : RoomModel) (ship low high : ℕ) (total one other : Balance) → RoomFits f room → ship < f.ships
    → best_balances f tolls tariff room ≡ Some total → best_balance f tolls tariff ship (low_of room ship) (high_of room ship) ≡ Some one → best_balance f tolls tariff ship low high ≡ Some other
    → IsSomeAnd (best_balances f tolls tariff (with_range room ship low high)) (Changed total one other)
