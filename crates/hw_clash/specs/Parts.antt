-- Parts of a problem with wishes: those of its restrictions whose numbers are in a list, and no cargo.
use Rattle.std.specs.Prelude.{ℕ, ◌+◌, ◌&&◌, ◌||◌, Bool, not, if◌then◌else◌, List, [], ◌∷◌, Option, Some, None, is_none, All, IsTrue, filter, length, slice_get}
use Rattle.std.specs.List.{range_with_len}
use Rattle.hw_model.specs.declared.rule.Rule.{Rule}
use Rattle.hw_model.specs.Problem.{Problem, IsTimetable, value_at}
use Rattle.hw_model.specs.Timetables.{restriction_count}
use Rattle.hw_plan_texts.specs.Grids.{grid_of_values}
use Rattle.hw_clash.specs.Wished.{Wished, is_granted, wished_holds}
use Rattle.hw_lemmas.specs.Lists.{has}

-- the ship's window is kept, and the problem has no value there
abbrev pub is_window_closed : Wished → List ℕ → ℕ → ℕ → Bool
is_window_closed f kept ship slot = has kept ship && is_none (value_at f.problem ship slot)

-- the ship's wish is kept, and doesn't grant the slot
abbrev pub is_refused : Wished → List ℕ → ℕ → ℕ → Bool
is_refused f kept ship slot = has kept (restriction_count f.problem + ship) && not (is_granted (slice_get f.wishes ship) (Some slot))

-- none where one of these is so, and 0 elsewhere
abbrev pub part_value : Wished → List ℕ → ℕ → ℕ → Option ℕ
part_value f kept ship slot = if is_window_closed f kept ship slot || is_refused f kept ship slot then None else Some 0

-- those of these rules whose numbers are kept, in order; the first one has this number
abbrev pub rules_in : List ℕ → ℕ → List Rule → List Rule
rules_in kept n [] = []
rules_in kept n (rule ∷ rules) = if has kept n then rule ∷ rules_in kept (n + 1) rules else rules_in kept (n + 1) rules

-- the sizes and the staying of the problem, the kept windows and wishes, and the kept rules
abbrev pub part : Wished → List ℕ → Problem
part f kept = record { ships = f.problem.ships; slots = f.problem.slots; stay = f.problem.stay; values = grid_of_values (part_value f kept) f.problem.ships f.problem.slots; rules = rules_in kept f.problem.ships f.problem.rules }

-- the problem's numbers of the part's rules, in order
abbrev pub rule_numbers : Wished → List ℕ → List ℕ
rule_numbers f kept = filter (has kept) (range_with_len f.problem.ships (length f.problem.rules))

-- one slot for each ship, and each restriction of the list holds
pub record Meets (f : Wished) (kept : List ℕ) (table : List ℕ) : Type 0 where
  pub listed : IsTimetable f.problem table
  pub holds : All (λ n. IsTrue (wished_holds f table n)) kept
