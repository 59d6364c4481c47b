-- Two ships' ranges and their order, the differences that these leave, and rules on differences.
use Rattle.std.specs.Prelude.{◌≡◌, ℕ, ◌<◌, ◌≤◌, ℤ, pos, neg_ℤ, ◌-ℤ◌, ◌≤ℤ◌, Bool, false, ◌||◌, nat_le, List, ⊤}
use Rattle.std.specs.List.{list_all, Contains}
use Rattle.std.specs.Int.{int_max, int_min}
use Rattle.hw_model.specs.declared.limits.TheConstants.{MOST_DIFFERENCE}
use Rattle.hw_model.specs.declared.order.Order.{Order}
use Rattle.hw_model.specs.declared.order.Order.TheVariants.{Unset, First, NotFirst}
use Rattle.hw_model.specs.declared.rule.Hole.{Hole}
use Rattle.hw_model.specs.Rules.{misses}
use Rattle.hw_model.specs.Rooms.{RoomModel, low_of, high_of, order_of}
use Rattle.hw_rules.specs.declared.spacing.Two.{Two}
use Rattle.hw_rules.specs.declared.spacing.Freeing.{Freeing}
use Rattle.hw_rules.specs.declared.spacing.Freeing.TheVariants.{Either, Lesser, Greater}

-- what a room says of two of its ships, the lesser one first
abbrev pub two_at : RoomModel → ℕ → ℕ → Two
two_at room v w = record { low_v = low_of room v; high_v = high_of room v; low_w = low_of room w; high_w = high_of room w; order = order_of room v w }

-- no range is empty, and slots are small
pub record HasSlots (t : Two) : Type 0 where
  pub some_v : t.low_v ≤ t.high_v
  pub some_w : t.low_w ≤ t.high_w
  pub few_v : t.high_v < MOST_DIFFERENCE
  pub few_w : t.high_w < MOST_DIFFERENCE

-- the slots of the lesser and the greater ship agree with their order, if it is set
abbrev pub Agrees : Order → ℕ → ℕ → Type 0
Agrees Unset x y = ⊤
Agrees First x y = x < y
Agrees NotFirst x y = y ≤ x

-- slots of the two ranges that agree with the order
pub record AreSlots (t : Two) (x y : ℕ) : Type 0 where
  pub above_v : t.low_v ≤ x
  pub below_v : x ≤ t.high_v
  pub above_w : t.low_w ≤ y
  pub below_w : y ≤ t.high_w
  pub agrees : Agrees t.order x y

-- no slots of the two ranges agree with the order and meet the test
abbrev pub NonePasses : (ℕ → ℕ → Bool) → Two → Type 0
NonePasses test t = (x y : ℕ) → AreSlots t x y → test x y ≡ false

-- a ship whose staying frees the rule stays: its slot isn't one of the horizon
abbrev pub frees : ℕ → Freeing → ℕ → ℕ → Bool
frees horizon Either x y = nat_le horizon x || nat_le horizon y
frees horizon Lesser x y = nat_le horizon x
frees horizon Greater x y = nat_le horizon y

-- no hole holds the difference of two slots
abbrev pub clears : List Hole → ℕ → ℕ → Bool
clears holes x y = list_all (misses (pos y -ℤ pos x)) holes

-- the rule with these holes holds with these slots
abbrev pub passes : ℕ → Freeing → List Hole → ℕ → ℕ → Bool
passes horizon freeing holes x y = frees horizon freeing x y || clears holes x y

-- the least of the differences that the ranges and the order leave
abbrev pub least : Two → ℤ
least t = elim t.order [
  | Unset ↦ pos t.low_w -ℤ pos t.high_v
  | First ↦ int_max (pos t.low_w -ℤ pos t.high_v) (pos 1)
  | NotFirst ↦ pos t.low_w -ℤ pos t.high_v
]

-- the greatest of them; where it is below the least there are none
abbrev pub greatest : Two → ℤ
greatest t = elim t.order [
  | Unset ↦ pos t.high_w -ℤ pos t.low_v
  | First ↦ pos t.high_w -ℤ pos t.low_v
  | NotFirst ↦ int_min (pos t.high_w -ℤ pos t.low_v) (pos 0)
]

-- each difference from the first to the second lies in a hole
abbrev pub Covered : ℤ → ℤ → List Hole → Type 0
Covered lo hi holes = (d : ℤ) → lo ≤ℤ d → d ≤ℤ hi → list_all (misses d) holes ≡ false

-- the hole is one of these and holds the difference
pub record HoleAt (holes : List Hole) (d : ℤ) (hole : Hole) : Type 0 where
  pub from : hole.lo ≤ℤ d
  pub to : d ≤ℤ hole.hi
  pub among : Contains holes hole

-- a gap from the lesser ship to the greater as a hole of their differences
abbrev pub hole_above : ℕ → Hole
hole_above gap = record { lo = neg_ℤ (pos MOST_DIFFERENCE); hi = pos gap -ℤ pos 1 }

-- a gap from the greater ship to the lesser
abbrev pub hole_below : ℕ → Hole
hole_below gap = record { lo = pos 1 -ℤ pos gap; hi = pos MOST_DIFFERENCE }
