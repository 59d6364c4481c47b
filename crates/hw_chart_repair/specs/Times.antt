-- When a slot begins, and what is said of a ship and a slot.
use Rattle.std.specs.Prelude.{ℕ, ◌+◌, ◌*◌, List, [], ◌∷◌, codes, decimal}
use Rattle.std.specs.List.{concat}
use Rattle.hw_chart_svg.specs.Numbers.{clock}
use Rattle.hw_chart.specs.declared.grid.Scale.{Scale}
use Rattle.hw_chart.specs.declared.grid.Scale.TheVariants.{Minutes, Slots}

-- the time at which a slot begins, where slots have minutes: these are counted from midnight, if slot 0 has a date
abbrev pub slot_time_text : Scale → ℕ → ℕ → List ℕ
slot_time_text (Minutes minutes) midnight slot = concat (codes ", " ∷ clock (slot * minutes + midnight) ∷ [])
slot_time_text Slots midnight slot = []

-- a ship, some words, and a slot
abbrev pub slot_title : List ℕ → ℕ → List ℕ → ℕ → List ℕ
slot_title time ship words slot = concat (codes "ship " ∷ decimal ship ∷ words ∷ decimal slot ∷ time ∷ [])

-- a ship that was planned to stay
abbrev pub planned_stay_title : ℕ → List ℕ
planned_stay_title ship = concat (codes "ship " ∷ decimal ship ∷ codes " was planned to stay" ∷ [])
