-- Marks, which begin or end an element or an attribute, and texts without any.
use Rattle.std.specs.Prelude.{◌≡◌, ◌≤◌, ◌<◌, ◌^◌, ◌+◌, ℕ, Bool, true, not, ◌||◌, nat_eq, List}
use Rattle.std.specs.List.{list_all}
use Rattle.hw_chart_svg.specs.Figures.{steps, steps_path}
use Rattle.hw_chart_svg.specs.Names.{escaped}
use Rattle.hw_chart_svg.specs.Shapes.{area_path}
use Rattle.hw_chart_svg.specs.declared.area.Area.{Area}

-- none of the marks < > " '
abbrev pub is_word : ℕ → Bool
is_word b = not (nat_eq b 60 || nat_eq b 62 || nat_eq b 34 || nat_eq b 39)

-- no byte of a name, as it is written, is such a mark
abbrev pub NamesAreWords : Type 0
NamesAreWords = (name : List ℕ) → list_all is_word (escaped name) ≡ true

-- two names that are written alike are the same
abbrev pub NamesReadBack : Type 0
NamesReadBack = (name other : List ℕ) → escaped name ≡ escaped other → name ≡ other

-- no mark stands in the path around an area
abbrev pub AreasHaveNoMarks : Type 0
AreasHaveNoMarks = (a : Area) → a.left < 2 ^ 64 → a.right < 2 ^ 64 → a.top < 2 ^ 64 → a.bottom < 2 ^ 64 → list_all is_word (area_path a) ≡ true

-- no mark stands in the path of a figure
abbrev pub StepsHaveNoMarks : Type 0
StepsHaveNoMarks = (level : ℕ → ℕ) (first count base : ℕ) → first + count < 2 ^ 64 → base < 2 ^ 64 → ((k : ℕ) → level k < 2 ^ 64) → list_all is_word (steps_path level first count base) ≡ true

-- two figures of the same text have the same level in each slot
abbrev pub SameTextSameLevels : Type 0
SameTextSameLevels = (class : List ℕ) (level other : ℕ → ℕ) (first count base : ℕ) → ((k : ℕ) → level k < 2 ^ 64) → ((k : ℕ) → other k < 2 ^ 64) → steps class level first count base ≡ steps class other first count base → (k : ℕ) → first ≤ k → k < first + count → level k ≡ other k
