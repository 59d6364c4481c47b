-- What the restrictions of a port stand for, in the order of their numbers.
use Rattle.std.specs.Prelude.{ℕ, ◌+◌, ℤ, Bool, nat_lt, if◌then◌else◌, List, [], ◌∷◌, ◌++◌, map, filter, length}
use Rattle.std.specs.List.{list_any, range_with_len}
use Rattle.std.specs.Ordering.{int_eq}
use Rattle.hw_port.specs.declared.parts.Stretch.{Stretch}
use Rattle.hw_port.specs.declared.parts.BerthPair.{BerthPair}
use Rattle.hw_port.specs.declared.parts.AfterPair.{AfterPair}
use Rattle.hw_port.specs.Parts.{ShipParts}
use Rattle.hw_port.specs.Whole.{Parts}
use Rattle.hw_port_model.specs.Numbers.{whole, alike, separation_of}
use Rattle.hw_port_named.specs.declared.named.Named.{Named}
use Rattle.hw_port_named.specs.declared.named.Named.TheVariants.{Window, Separation, Sections, Berth, After, Tugs}

-- a window for each ship
abbrev pub windows : Parts → List Named
windows p = map (λ v. Window v) (range_with_len 0 (length p.ships))

-- the channel uses the section
abbrev pub uses : List Stretch → ℤ → Bool
uses channel section = list_any (λ b. int_eq b.section section) channel

-- the places of the sections that both channels use, in the order of the first one
abbrev pub shared_sections : List Stretch → List Stretch → List ℕ
shared_sections channel others = map (λ a. whole a.section) (filter (λ a. uses others a.section) channel)

-- two ships that share these sections, where there are any
abbrev pub sharing : ℕ → ℕ → List ℕ → List Named
sharing v w [] = []
sharing v w (section ∷ sections) = Sections v w (section ∷ sections) ∷ []

-- how far apart two ships of the same direction sail: the second after the first, and the first after the second
abbrev pub separation : Parts → ℕ → ShipParts → ℕ → ShipParts → Named
separation p v s w r = Separation v w (whole (separation_of p s r)) (whole (separation_of p r s))

-- what the port says of two ships
abbrev pub pair_named : Parts → ℕ → ShipParts → ℕ → ShipParts → List Named
pair_named p v s w r = if alike s r then separation p v s w r ∷ [] else sharing v w (shared_sections s.channel r.channel)

-- of ship v and each of the ships from w on
abbrev pub named_with : Parts → ℕ → ShipParts → ℕ → List ShipParts → List Named
named_with p v s w [] = []
named_with p v s w (r ∷ more) = pair_named p v s w r ++ named_with p v s (w + 1) more

-- of the ships from v on, each with those after it
abbrev pub named_from : Parts → ℕ → List ShipParts → List Named
named_from p v [] = []
named_from p v (s ∷ more) = named_with p v s (v + 1) more ++ named_from p (v + 1) more

abbrev pub berth_named : BerthPair → Named
berth_named b = Berth (whole b.outgoing) (whole b.incoming) (whole b.clear)

abbrev pub after_named : AfterPair → Named
after_named a = After (whole a.first) (whole a.second) (whole a.gap)

-- the ship has tugs
abbrev pub has_tugs : ShipParts → Bool
has_tugs s = nat_lt 0 (whole s.tugs)

-- the fleet, where some ship has tugs
abbrev pub tugs_named : Parts → List Named
tugs_named p = if list_any has_tugs p.ships then Tugs (whole p.fleet) ∷ [] else []

-- the restrictions after the windows: pairs of ships, berths, ships after others, tugs
abbrev pub rules_named : Parts → List Named
rules_named p = named_from p 0 p.ships ++ (map berth_named p.berths ++ (map after_named p.after ++ tugs_named p))

-- what each restriction stands for, by its number
abbrev pub named_restrictions : Parts → List Named
named_restrictions p = windows p ++ rules_named p
