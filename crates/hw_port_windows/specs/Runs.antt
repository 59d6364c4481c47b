-- The longest runs of slots of one kind, and the slots of a run with its extreme drafts.
use Rattle.std.specs.Prelude.{ℕ, zero, suc, ◌+◌, ◌-◌, ℤ, int_lt, List, [], ◌∷◌, if◌then◌else◌}
use Rattle.hw_port_windows.specs.declared.status.Status.{Status}
use Rattle.hw_port_windows.specs.declared.run.Run.{Run}
use Rattle.hw_port_windows.specs.Statuses.{statuses_alike}

-- a run of one slot
abbrev pub one_slot : ℕ → Run
one_slot slot = record { first = slot; last = slot }

-- a slot before the runs of the slots after it: it joins the first of them where it is of that kind
abbrev pub before : (ℕ → Status) → ℕ → List Run → List Run
before status slot [] = one_slot slot ∷ []
before status slot (run ∷ more) =
    if statuses_alike (status slot) (status run.first) then record { first = slot; last = run.last } ∷ more
    else one_slot slot ∷ run ∷ more

-- the longest runs of slots of one kind, among this many slots from the first on
abbrev pub runs : (ℕ → Status) → ℕ → ℕ → List Run
runs status first zero = []
runs status first (suc count) = before status first (runs status (first + 1) count)

-- the longest runs among the slots of a span
abbrev pub runs_within : (ℕ → Status) → Run → List Run
runs_within status span = runs status span.first (span.last + 1 - span.first)

-- of two slots the one with the lesser draft, and otherwise the first one
abbrev pub lighter : (ℕ → ℤ) → ℕ → ℕ → ℕ
lighter draft a b = if int_lt (draft b) (draft a) then b else a

-- of two slots the one with the greater draft, and otherwise the first one
abbrev pub deeper_slot : (ℕ → ℤ) → ℕ → ℕ → ℕ
deeper_slot draft a b = if int_lt (draft a) (draft b) then b else a

-- of a slot and as many slots after it, the first with the least draft
abbrev pub lightest : (ℕ → ℤ) → ℕ → ℕ → ℕ
lightest draft first zero = first
lightest draft first (suc more) = lighter draft (lightest draft first more) (first + suc more)

-- of a slot and as many slots after it, the first with the greatest draft
abbrev pub deepest : (ℕ → ℤ) → ℕ → ℕ → ℕ
deepest draft first zero = first
deepest draft first (suc more) = deeper_slot draft (deepest draft first more) (first + suc more)

-- the same of a run
abbrev pub lightest_in : (ℕ → ℤ) → Run → ℕ
lightest_in draft run = lightest draft run.first (run.last - run.first)

abbrev pub deepest_in : (ℕ → ℤ) → Run → ℕ
deepest_in draft run = deepest draft run.first (run.last - run.first)
