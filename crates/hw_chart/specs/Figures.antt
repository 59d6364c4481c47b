-- Levels made of others.
use Rattle.std.specs.Prelude.{ℕ, ◌-◌, Bool, ◌&&◌, zero, suc, max, nat_eq, nat_lt, if◌then◌else◌}
use Rattle.std.specs.List.{list_any, range_with_len}

-- the top of the window where an amount is all that there is, and otherwise its foot
abbrev pub full_level : ℕ → ℕ → ℕ → ℕ
full_level all tall amount = if nat_eq amount all && nat_lt 0 amount then 0 else tall

-- the amount where it is all that there is in its slot, and otherwise the foot of the window
abbrev pub whole_level : ℕ → ℕ → ℕ → ℕ
whole_level all tall amount = if nat_eq amount all && nat_lt 0 amount then tall - amount else tall

-- the greatest of the levels before an end
abbrev pub greatest_level : (ℕ → ℕ) → ℕ → ℕ
greatest_level level zero = 0
greatest_level level (suc end) = max (level end) (greatest_level level end)

-- an amount is all that there is in some slot before an end
abbrev pub is_reached : (ℕ → ℕ) → ℕ → ℕ → Bool
is_reached level all end = list_any (λ slot. nat_eq (level slot) all && nat_lt 0 (level slot)) (range_with_len 0 end)

-- an amount is all that there is in its slot, in some slot before an end
abbrev pub is_met : (ℕ → ℕ) → (ℕ → ℕ) → ℕ → Bool
is_met level all end = list_any (λ slot. nat_eq (level slot) (all slot) && nat_lt 0 (level slot)) (range_with_len 0 end)

-- a level is that of the top in some slot before an end
abbrev pub is_top_touched : (ℕ → ℕ) → ℕ → Bool
is_top_touched level end = list_any (λ slot. nat_eq (level slot) 0) (range_with_len 0 end)
