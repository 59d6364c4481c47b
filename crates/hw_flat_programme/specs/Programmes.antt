-- 0-1 linear programmes over a variable for each ship and slot, their points, and which points satisfy them.
use Rattle.std.specs.Prelude.{◌≡◌, ◌≤◌, ◌+◌, ℕ, Bool, if◌then◌else◌, List, [], ◌∷◌, ⊤}
use Rattle.hw_flat_programme.specs.declared.format.Sense.{Sense}
use Rattle.hw_flat_programme.specs.declared.format.Sense.TheVariants.{AtMost, Exactly}

-- a variable, which is a ship and a slot, and its weight
pub record Term : Type 0 where
  pub weight : ℕ
  pub ship : ℕ
  pub slot : ℕ

-- the sum of the terms is at most the bound, or exactly that
pub record Row : Type 0 where
  pub terms : List Term
  pub sense : Sense
  pub bound : ℕ

-- what is to be made greatest or least, with a term for each variable, and the rows
pub record Programme : Type 0 where
  pub objective : List Term
  pub rows : List Row

-- a point says of each ship and slot whether its variable is 1
abbrev pub Point : Type 0
Point = ℕ → ℕ → Bool

-- what a term adds at a point
abbrev pub taken : Point → Term → ℕ
taken p term = if p term.ship term.slot then term.weight else 0

-- the sum of terms at a point
abbrev pub total : Point → List Term → ℕ
total p [] = 0
total p (term ∷ terms) = taken p term + total p terms

-- the sum of all weights
abbrev pub weight_of : List Term → ℕ
weight_of [] = 0
weight_of (term ∷ terms) = term.weight + weight_of terms

-- a sum keeps a bound
abbrev pub KeepsBound : Sense → ℕ → ℕ → Type 0
KeepsBound AtMost bound sum = sum ≤ bound
KeepsBound Exactly bound sum = sum ≡ bound

-- the point satisfies each of the rows
abbrev pub SatisfiesRows : Point → List Row → Type 0
SatisfiesRows p [] = ⊤
SatisfiesRows p (row ∷ rows) = KeepsBound row.sense row.bound (total p row.terms) × SatisfiesRows p rows

abbrev pub Satisfies : Point → Programme → Type 0
Satisfies p programme = SatisfiesRows p programme.rows
