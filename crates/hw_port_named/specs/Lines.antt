-- The text that explains a port's restrictions, one line for each.
use Rattle.std.specs.Prelude.{ℕ, ◌+◌, List, [], ◌∷◌, ◌++◌, map, codes, decimal, slice_get}
use Rattle.std.specs.Option.{option_map_or}
use Rattle.hw_port.specs.Whole.{Parts}
use Rattle.hw_flat.specs.TextWritten.{led}
use Rattle.hw_port_named.specs.declared.named.Named.{Named}
use Rattle.hw_port_named.specs.declared.named.Named.TheVariants.{Window, Separation, Sections, Berth, After, Tugs}
use Rattle.hw_port_named.specs.Restrictions.{named_restrictions}
use Rattle.hw_port_named.specs.Closed.{window_told}

abbrev pub kind_text : Named → List ℕ
kind_text (Window ship) = codes "window"
kind_text (Separation v w after before) = codes "separation"
kind_text (Sections v w sections) = codes "sections"
kind_text (Berth v w clear) = codes "berth"
kind_text (After v w gap) = codes "after"
kind_text (Tugs fleet) = codes "tugs"

-- the numbers after the kind
abbrev pub numbers_of : Named → List ℕ
numbers_of (Window ship) = ship ∷ []
numbers_of (Separation v w after before) = v ∷ w ∷ after ∷ before ∷ []
numbers_of (Sections v w sections) = v ∷ w ∷ sections
numbers_of (Berth v w clear) = v ∷ w ∷ clear ∷ []
numbers_of (After v w gap) = v ∷ w ∷ gap ∷ []
numbers_of (Tugs fleet) = fleet ∷ []

abbrev pub ship_name : Parts → ℕ → List ℕ
ship_name p v = option_map_or (λ s. s.name) (slice_get p.ships v) []

abbrev pub section_name : Parts → ℕ → List ℕ
section_name p n = option_map_or (λ s. s.name) (slice_get p.sections n) []

-- the names after the numbers: of the ships, and then of the sections
abbrev pub restriction_names : Parts → Named → List (List ℕ)
restriction_names p (Window ship) = ship_name p ship ∷ []
restriction_names p (Separation v w after before) = ship_name p v ∷ ship_name p w ∷ []
restriction_names p (Sections v w sections) = ship_name p v ∷ ship_name p w ∷ map (section_name p) sections
restriction_names p (Berth v w clear) = ship_name p v ∷ ship_name p w ∷ []
restriction_names p (After v w gap) = ship_name p v ∷ ship_name p w ∷ []
restriction_names p (Tugs fleet) = []

-- names, each after a slash
abbrev pub slashed : List (List ℕ) → List ℕ
slashed [] = []
slashed (name ∷ names) = codes " / " ++ name ++ slashed names

-- the names of a line, with a slash between two
abbrev pub names_text : List (List ℕ) → List ℕ
names_text [] = []
names_text (name ∷ names) = codes " " ++ name ++ slashed names

-- after the line of a window stands what closes slots of it
abbrev pub with_closed : Parts → Named → List ℕ → List ℕ
with_closed p (Window ship) text = text ++ window_told p ship
with_closed p (Separation v w after before) text = text
with_closed p (Sections v w sections) text = text
with_closed p (Berth v w clear) text = text
with_closed p (After v w gap) text = text
with_closed p (Tugs fleet) text = text

-- the line of a restriction: its number, its kind, numbers and names
abbrev pub named_line : Parts → ℕ → Named → List ℕ
named_line p number named = with_closed p named (decimal number ++ 32 ∷ kind_text named ++ led (map decimal (numbers_of named)) ++ names_text (restriction_names p named))

-- the lines of restrictions, the first of which has this number
abbrev pub named_lines : Parts → ℕ → List Named → List ℕ
named_lines p number [] = []
named_lines p number (named ∷ more) = named_line p number named ++ 10 ∷ named_lines p (number + 1) more

-- a line for each restriction, and the last line
abbrev pub explained : Parts → List ℕ
explained p = named_lines p 0 (named_restrictions p) ++ codes "end\n"
