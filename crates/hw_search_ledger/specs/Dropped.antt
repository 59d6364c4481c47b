-- The numbers of lines that a search keeps, and those that it no longer does.
use Rattle.std.specs.Prelude.{ℕ, Bool, ◌==◌, List, [], ◌∷◌, ◌++◌, Option, Some, None, Contains, drop, take, filter, filter_map, map, not}
use Rattle.std.specs.List.{list_any}
use Rattle.std.specs.List.Sorted.{IsStrictlyIncreasing}
use Rattle.hw_store.specs.declared.store.Stored.{Stored}

-- the number, if there is one
abbrev pub number_list : Option ℕ → List ℕ
number_list None = []
number_list (Some number) = number ∷ []

-- the numbers that were written for reasons of events from a place on, and the conflict's own
abbrev pub dropped : List (Option ℕ) → ℕ → Option ℕ → List ℕ
dropped written keep conflict = filter_map (λ number. number) (drop keep written) ++ number_list conflict

-- the numbers of stored lemmas, and those that were written for reasons
abbrev pub line_numbers_kept : List Stored → List (Option ℕ) → List ℕ
line_numbers_kept stored written = map (λ one. one.number) stored ++ filter_map (λ number. number) written

-- the number is that of a stored lemma, or an earlier one
abbrev pub is_kept : List Stored → List ℕ → ℕ → Bool
is_kept stored earlier number = list_any (λ one. one == number) (map (λ one. one.number) stored ++ earlier)

-- the numbers that are neither stored nor earlier ones
abbrev pub unkept_of : List Stored → List ℕ → List ℕ → List ℕ
unkept_of stored earlier numbers = filter (λ number. not (is_kept stored earlier number)) numbers

-- the numbers of dropped events and of the conflict, ascending, without those that are kept
pub record IsLeftOver (stored : List Stored) (written : List (Option ℕ)) (keep : ℕ) (conflict : Option ℕ) (ids : List ℕ) : Type 0 where
  pub ascends : IsStrictlyIncreasing ids
  pub holds : (n : ℕ) → Contains ids n → Contains (dropped written keep conflict) n
  pub apart : (n : ℕ) → Contains ids n → Contains (line_numbers_kept stored (take keep written)) n → ⊥
  pub all : (n : ℕ) → Contains (dropped written keep conflict) n → (Contains (line_numbers_kept stored (take keep written)) n → ⊥) → Contains ids n
