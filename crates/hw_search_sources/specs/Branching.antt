-- What is kept while the ship to decide is looked for.
use Rattle.std.specs.Prelude.{◌≡◌, ℕ, ◌<◌, List, [], ◌∷◌, ◌++◌, Option, Some, None, cond, find, nat_lt}
use Rattle.std.specs.List.{range_with_len}
use Rattle.hw_model.specs.Problem.{Problem}
use Rattle.hw_model.specs.Rooms.{RoomModel, low_of, high_of}
use Rattle.hw_search_laws.specs.Branches.{greatest_in, greatest_ship}

-- the first ship whose range has several slots
abbrev pub first_wide : RoomModel → Option ℕ
first_wide room = find (λ ship. nat_lt (low_of room ship) (high_of room ship)) (range_with_len 0 room.ships)

-- none where there are no ships, else the first of these ships with the greatest value, and that value
abbrev pub BestAmong : Problem → RoomModel → List ℕ → Option (ℕ × ℕ) → Type 0
BestAmong f room ships None = ships ≡ []
BestAmong f room ships (Some best) = (greatest_ship f room ships ≡ Some best.0) × (best.1 ≡ greatest_in f room best.0) × (best.0 < f.ships)

-- these ships, and one more where its range has several slots
abbrev pub with_wide : RoomModel → List ℕ → ℕ → List ℕ
with_wide room ships ship = ships ++ cond (nat_lt (low_of room ship) (high_of room ship)) (ship ∷ []) []
