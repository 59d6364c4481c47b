-- Two waters of one kind that look as if a clock was changed between them.
use Rattle.std.specs.Prelude.{ℕ, ◌-◌, ◌*◌, ◌&&◌, ◌||◌, List, [], ◌∷◌, ◌++◌, Bool, Option, Some, None, codes, nat_lt, if◌then◌else◌}
use Rattle.hw_text.specs.Numbers.{number_from_to}
use Rattle.hw_text.specs.Parts.{parts_of}
use Rattle.hw_port_lint.specs.Instances.{begins}
use Rattle.hw_port_lint.specs.Lines.{clock_line}
use Rattle.hw_port_lint.specs.declared.clock.Seen.{Seen}

abbrev pub first_slot : List (List ℕ) → Option ℕ
first_slot [] = None
first_slot (field ∷ more) = number_from_to 0 2_047 field

-- the slot at the beginning of a line: the number before its first comma
abbrev pub line_slot : List ℕ → Option ℕ
line_slot line = first_slot (parts_of 44 line)

-- how many minutes lie between two slots
abbrev pub minutes_apart : ℕ → ℕ → ℕ → ℕ
minutes_apart minutes first second = (second - first) * minutes

-- less than 11 or more than 14 hours, of waters after slot 0
abbrev pub is_odd : ℕ → ℕ → ℕ → Bool
is_odd minutes first second = nat_lt 0 first && (nat_lt (minutes_apart minutes first second) 660 || nat_lt 840 (minutes_apart minutes first second))

-- a water, and the last one of its kind before it: high and low waters take turns
abbrev pub pair_hint : ℕ → Option ℕ → ℕ → List ℕ
pair_hint minutes None slot = []
pair_hint minutes (Some first) slot = if is_odd minutes first slot then clock_line first slot (minutes_apart minutes first slot) else []

abbrev pub slot_hint : ℕ → Seen → Option ℕ → List ℕ
slot_hint minutes seen None = []
slot_hint minutes seen (Some slot) = pair_hint minutes seen.before slot

-- what a line gives: a line without a slot gives nothing
abbrev pub line_hint : ℕ → Seen → List ℕ → List ℕ
line_hint minutes seen line = slot_hint minutes seen (line_slot line)

abbrev pub seen_then : Seen → Option ℕ → Seen
seen_then seen None = seen
seen_then seen (Some slot) = record { before = seen.last; last = Some slot }

abbrev pub seen_after : Seen → List ℕ → Seen
seen_after seen line = seen_then seen (line_slot line)

abbrev pub clock_from : ℕ → Seen → List (List ℕ) → List ℕ
clock_from minutes seen [] = []
clock_from minutes seen (line ∷ more) = line_hint minutes seen line ++ clock_from minutes (seen_after seen line) more

abbrev pub clock_line_hints : ℕ → List ℕ → List ℕ
clock_line_hints minutes table = clock_from minutes (record { before = None; last = None }) (parts_of 10 table)

-- of a table of waters
abbrev pub clock_hints : ℕ → List ℕ → List ℕ
clock_hints minutes table = if begins table (codes "water,") then clock_line_hints minutes table else []
