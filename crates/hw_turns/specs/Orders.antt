-- The order in which searchers take turns.
use Rattle.std.specs.Prelude.{ℕ, Bool, true, false, List, [], ◌∷◌, filter, length}
use Rattle.std.specs.List.{list_any}
use Rattle.hw_search_laws.specs.declared.outcome.Branching.{Branching}
use Rattle.hw_search_laws.specs.declared.outcome.Branching.TheVariants.{Greatest, Earliest, Latest}

-- the rules are one
abbrev pub same_rule : Branching → Branching → Bool
same_rule Greatest Greatest = true
same_rule Earliest Earliest = true
same_rule Latest Latest = true
same_rule rule other = false

-- the searchers of an order: a rule is one's where it comes in the order
abbrev pub searchers : List Branching → List Branching
searchers order = filter (λ rule. list_any (same_rule rule) order) (Greatest ∷ Earliest ∷ Latest ∷ [])

-- how many different searchers take turns
abbrev pub searcher_count : List Branching → ℕ
searcher_count order = length (searchers order)
