-- The clash of a problem with wishes: restrictions that can't be met together, none of which can be left out.
use Rattle.std.specs.Prelude.{◌≡◌, ◌⊎◌, ◌==◌, ℕ, zero, suc, ◌<◌, ◌≤◌, not, List, filter, All, length, Some, slice_get}
use Rattle.std.specs.List.{range_with_len}
use Rattle.std.specs.List.Sorted.{IsStrictlyIncreasing}
use Rattle.hw_model.specs.Timetables.{Permits, NonePermitted}
use Rattle.hw_rules.specs.Outcomes.{SomePermitted}
use Rattle.hw_clash.specs.Parts.{part}
use Rattle.hw_clash.specs.Wished.{Wished, wished_count}

-- the numbers of all restrictions
abbrev pub all_restriction_numbers : Wished → List ℕ
all_restriction_numbers f = range_with_len 0 (wished_count f)

-- the list without a number
abbrev pub without_number : ℕ → List ℕ → List ℕ
without_number n kept = filter (λ m. not (m == n)) kept

-- a number is taken away if the others can't be met together, and kept if they can
abbrev pub Tries : Wished → ℕ → List ℕ → List ℕ → Type 0
Tries f n before after =
    (NonePermitted (part f (without_number n before)) × (after ≡ without_number n before))
    ⊎ (SomePermitted (part f (without_number n before)) × (after ≡ before))

-- of all numbers, those below this one were tried in order, and these are left
abbrev pub IsLeft : Wished → ℕ → List ℕ → Type 0
IsLeft f zero left = left ≡ all_restriction_numbers f
IsLeft f (suc n) left = (before : List ℕ) × IsLeft f n before × Tries f n before left

-- what is left after all numbers were tried
abbrev pub IsClash : Wished → List ℕ → Type 0
IsClash f kept = IsLeft f (wished_count f) kept

-- restrictions, ascending, that can't be met together, none of which can be left out
pub record IsIrreducible (f : Wished) (kept : List ℕ) : Type 0 where
  pub some : 1 ≤ length kept
  pub numbered : All (λ n. n < wished_count f) kept
  pub ascending : IsStrictlyIncreasing kept
  pub clash : NonePermitted (part f kept)
  pub needed : All (λ n. SomePermitted (part f (without_number n kept))) kept

-- for each kept restriction, in order, a timetable that meets all the others
pub record AreDrops (f : Wished) (kept : List ℕ) (drops : List (List ℕ)) : Type 0 where
  pub each_id : length drops ≡ length kept
  pub met : (place n : ℕ) (table : List ℕ) → slice_get kept place ≡ Some n → slice_get drops place ≡ Some table → Permits (part f (without_number n kept)) table
