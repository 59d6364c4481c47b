-- Files in memory, and what is left of them.
use Rattle.std.specs.Prelude.{false, ℕ, List, [], Option, Some, None, drop, string_bytes, option_map, position, slice_get}
use Rattle.std.specs.Option.{option_map_or}
use Rattle.std.specs.Str.{bytes_eq}
use Rattle.hw_desk.specs.declared.slots.NamedBytes.{NamedBytes}
use Rattle.hw_desk.specs.declared.slots.FeedSlot.{FeedSlot}

-- what is left of a file, if there is one, from a place on
abbrev pub left_at : List NamedBytes → Option ℕ → ℕ → List ℕ
left_at files None at = []
left_at files (Some i) at = option_map_or (λ f. drop at f.bytes.items) (slice_get files i) []

-- a feed that wasn't begun
abbrev pub fresh_slot : FeedSlot
fresh_slot = record { begun = false; name = None; file = None; at = 0 }

-- the place of the first file of a name
abbrev pub file_named : List NamedBytes → List ℕ → Option ℕ
file_named files name = position (λ f. bytes_eq (string_bytes f.name) name) files

-- the bytes under a name: those of the first file that has it
abbrev pub held_in : List NamedBytes → List ℕ → Option (List ℕ)
held_in files name = option_map (λ i. left_at files (Some i) 0) (file_named files name)

-- what is left of the file that a slot names
abbrev pub left_of : List NamedBytes → FeedSlot → List ℕ
left_of files s = left_at files s.file s.at
