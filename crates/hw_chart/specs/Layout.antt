-- Where things stand on a picture.
use Rattle.std.specs.Prelude.{ℕ, ◌+◌, ◌-◌, ◌*◌, ◌/◌, ◌%◌, Bool, ◌&&◌, ◌||◌, nat_eq, nat_lt, if◌then◌else◌, Option, Some, None, List, [], ◌∷◌, codes, decimal, count_by, slice_index}
use Rattle.std.specs.List.{enumerate_from, concat}
use Rattle.hw_chart_svg.specs.Shapes.{block, shape}
use Rattle.hw_chart_svg.specs.declared.sheet.Window.{Window}

-- a window over the slots that a picture shows, `tall` units of its own down
abbrev pub plot : ℕ → ℕ → ℕ → ℕ → Window
plot y height span tall = record { x = 172; y = y; width = 720; height = height; across = span; down = tall }

-- a ship with this number and slot stands above one with these
abbrev pub stands_above : ℕ → ℕ → ℕ → ℕ → Bool
stands_above other slot ship own = nat_lt slot own || (nat_eq slot own && nat_lt other ship)

-- the place of a ship's row: how many stand above it
abbrev pub rank_of : List ℕ → ℕ → ℕ
rank_of table ship = count_by (λ given. stands_above given.0 given.1 ship (slice_index table ship)) (enumerate_from 0 table)

-- rows stand in the order of the timetable, or of the ships where there is none
abbrev pub rank_in : Option (List ℕ) → ℕ → ℕ
rank_in None ship = ship
rank_in (Some table) ship = rank_of table ship

-- a stripe behind every second row
abbrev pub stripe : ℕ → ℕ → List ℕ
stripe rank y = if nat_eq (rank % 2) 0 then block (codes "bd") (record { left = 0; right = 1280; top = y - 1; bottom = y + 41 }) else []

-- where a part of a whole stands on the plot
abbrev pub plot_place : ℕ → ℕ → ℕ
plot_place part whole = 172 + part * 720 / whole

-- a wedge above the middle of a slot
abbrev pub pin : List ℕ → ℕ → ℕ → ℕ → List ℕ
pin class slot span y = shape class (concat (codes "M" ∷ decimal (plot_place (2 * slot + 1) (2 * span) - 4) ∷ codes " " ∷ decimal (y - 1) ∷ codes "h9l-4 6z" ∷ []))
