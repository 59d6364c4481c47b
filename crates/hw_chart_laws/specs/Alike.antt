-- Rows that are written alike, and what they say of their ships.
use Rattle.std.specs.Prelude.{◌≡◌, ◌↔◌, ◌<◌, ◌-◌, ◌/◌, ⊤, ℕ, List, Option, Some, None, IfSome, slice_get}
use Rattle.hw_model.specs.Limits.{IsFlat}
use Rattle.hw_model.specs.Problem.{IsTimetable, Problem, horizon, value_at}
use Rattle.hw_port.specs.Parts.{ShipParts}
use Rattle.hw_port_model.specs.Drafts.{sailing}
use Rattle.hw_chart_flat.specs.Rows.{planned_row, planned_row_text, unplanned_row, unplanned_row_text}
use Rattle.hw_chart_flat.specs.Values.{most_carried, unit_of}
use Rattle.hw_chart_port.specs.Charts.{ChartParts, IsChart}
use Rattle.hw_chart_port.specs.Rows.{ranked_row}

-- rows of ships that are written alike, of whatever ports, tides and timetables, show ships that may sail in the same slots, and with the same draft in each
abbrev pub PortRowsReadBack : Type 0
PortRowsReadBack = (one two : ChartParts) (v w : ℕ) (s r : ShipParts) → IsChart one → IsChart two → slice_get one.port.ships v ≡ Some s → slice_get two.port.ships w ≡ Some r → ranked_row one v s ≡ ranked_row two w r → (slot : ℕ) → sailing one.port one.tide v slot ≡ sailing two.port two.tide w slot

-- the row of a ship of a flat problem, with a timetable or without one
abbrev pub flat_row : Problem → Option (List ℕ) → ℕ → List ℕ
flat_row f None ship = unplanned_row_text f (unplanned_row f ship)
flat_row f (Some table) ship = planned_row_text f table (planned_row f table ship)

-- neither value is there; or both are, and stay the same number of units below this much
abbrev pub SameClass : ℕ → Option ℕ → Option ℕ → Type 0
SameClass top None None = ⊤
SameClass top None (Some b) = ⊥
SameClass top (Some a) None = ⊥
SameClass top (Some a) (Some b) = (top - a) / unit_of top ≡ (top - b) / unit_of top

-- two ships carry the same at most, and in each slot their values are of one class; and they carry their most in the same slots
pub record CarryAlike (f : Problem) (ship : ℕ) (g : Problem) (other : ℕ) : Type 0 where
  pub slots : horizon f ≡ horizon g
  pub top : most_carried f ship ≡ most_carried g other
  pub classes : (slot : ℕ) → slot < horizon f → SameClass (most_carried f ship) (value_at f ship slot) (value_at g other slot)
  pub mosts : (slot : ℕ) → slot < horizon f → (value_at f ship slot ≡ Some (most_carried f ship)) ↔ (value_at g other slot ≡ Some (most_carried f ship))

-- rows of a flat problem's ships that are written alike show ships that carry alike
abbrev pub FlatRowsReadBack : Type 0
FlatRowsReadBack = (f g : Problem) (table given : Option (List ℕ)) (ship other : ℕ) → IsFlat f → IsFlat g → IfSome table (IsTimetable f) → IfSome given (IsTimetable g) → ship < f.ships → other < g.ships → flat_row f table ship ≡ flat_row g given other → CarryAlike f ship g other
