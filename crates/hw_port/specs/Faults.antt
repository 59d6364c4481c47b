-- A fault of an instance, or none; the first of several.
use Rattle.std.specs.Prelude.{ℕ, ◌+◌, List, [], ◌∷◌, Bool, true, false, Option, Some, None, Result, Ok, Err}
use Rattle.hw_lemmas.specs.Operators.{◌or_else◌}
use Rattle.hw_port.specs.declared.fault.Path.{Path}
use Rattle.hw_port.specs.declared.fault.PortFault.{PortFault}
use Rattle.hw_port.specs.declared.fault.PortWord.{PortWord}
use Rattle.hw_port.specs.declared.places.Place.{Place}
use Rattle.hw_port.specs.Places.{number_of_place}

-- no fault where the test holds
abbrev pub unless : Path → PortWord → Bool → Option PortFault
unless path word true = None
unless path word false = Some (record { path = path; word = word })

-- the first fault of a list's items, one after another and each whole, from the place i on
abbrev pub each : {A : Type 0} → (ℕ → A → Option PortFault) → ℕ → List A → Option PortFault
each rule i [] = None
each rule i (x ∷ xs) = rule i x or_else each rule (i + 1) xs

-- what a call refuses
abbrev pub fault_of : {A : Type 0} → Result A PortFault → Option PortFault
fault_of (Ok x) = None
fault_of (Err f) = Some f

-- a place with no star, with one, with two
abbrev pub at : Place → Path
at place = record { field = number_of_place place; first = None; second = None }

-- the path to a place with one star
abbrev pub at_item : Place → ℕ → Path
at_item place i = record { field = number_of_place place; first = Some i; second = None }

-- the path to a place with two stars
abbrev pub at_part : Place → ℕ → ℕ → Path
at_part place i j = record { field = number_of_place place; first = Some i; second = Some j }
