-- The literal by which a search decides.
use Rattle.std.specs.Prelude.{ℕ, ◌+◌, ◌==◌, nat_lt, nat_le, if◌then◌else◌, List, Option, find, filter, option_map, option_and_then, unwrap_or}
use Rattle.std.specs.List.{list_all, range_with_len}
use Rattle.hw_model.specs.declared.lit.Lit.{Lit}
use Rattle.hw_model.specs.declared.lit.Lit.TheVariants.{AtOrAfter, Before}
use Rattle.hw_model.specs.Problem.{Problem, value_at}
use Rattle.hw_model.specs.Rooms.{RoomModel, low_of, high_of}
use Rattle.hw_model.specs.Refuting.{greatest_value}
use Rattle.hw_model.specs.RefutingComputed.{slots_of}
use Rattle.hw_search_laws.specs.declared.outcome.Branching.{Branching}
use Rattle.hw_search_laws.specs.declared.outcome.Branching.TheVariants.{Greatest, Earliest, Latest}

-- the ships, ascending, whose range has several slots
abbrev pub wide_ships : RoomModel → List ℕ
wide_ships room = filter (λ ship. nat_lt (low_of room ship) (high_of room ship)) (range_with_len 0 room.ships)

-- the greatest value in a ship's range, where none counts 0
abbrev pub greatest_in : Problem → RoomModel → ℕ → ℕ
greatest_in f room ship = greatest_value f ship (low_of room ship) (high_of room ship)

-- the first of these ships whose range has the greatest value
abbrev pub greatest_ship : Problem → RoomModel → List ℕ → Option ℕ
greatest_ship f room ships = find (λ ship. list_all (λ other. nat_le (greatest_in f room other) (greatest_in f room ship)) ships) ships

-- the first slot of a ship's range with its greatest value
abbrev pub greatest_slot : Problem → RoomModel → ℕ → Option ℕ
greatest_slot f room ship = find (λ slot. unwrap_or (value_at f ship slot) 0 == greatest_in f room ship) (slots_of room ship)

-- from this slot on, where it isn't the lowest, else only the lowest
abbrev pub from_slot : RoomModel → ℕ → ℕ → Lit
from_slot room ship slot = if nat_lt (low_of room ship) slot then AtOrAfter ship slot else Before ship (low_of room ship + 1)

-- the literal of the branching rule, none in a point room
abbrev pub branch_literal : Branching → Problem → RoomModel → Option Lit
branch_literal Greatest f room = option_and_then (λ ship. option_map (from_slot room ship) (greatest_slot f room ship)) (greatest_ship f room (wide_ships room))
branch_literal Earliest f room = option_map (λ ship. Before ship (low_of room ship + 1)) (find (λ ship. nat_lt (low_of room ship) (high_of room ship)) (range_with_len 0 room.ships))
branch_literal Latest f room = option_map (λ ship. AtOrAfter ship (high_of room ship)) (find (λ ship. nat_lt (low_of room ship) (high_of room ship)) (range_with_len 0 room.ships))
