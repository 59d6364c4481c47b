-- The normal form that every clause has, whatever problem it belongs to.
use Rattle.std.specs.Prelude.{◌≡◌, ◌^◌, ℕ, ◌<◌, ◌≤◌, List, Some, true, slice_get}
use Rattle.hw_model.specs.declared.limits.TheConstants.{MOST_SHIPS}
use Rattle.hw_model.specs.declared.lit.Lit.{Lit}
use Rattle.hw_model.specs.declared.shape.Shape.{Shape}
use Rattle.hw_model.specs.Lits.{IsClause, place_of, may_follow}

-- as many ships as a problem may have, and every slot that a number can be
abbrev pub widest_shape : Shape
widest_shape = record { ships = MOST_SHIPS; slots = 2 ^ 32; rules = 0 }

-- the literals are a normal clause of up to `MOST_SHIPS` ships
abbrev pub IsNormal : List Lit → Type 0
IsNormal lits = IsClause widest_shape lits

-- a normal clause of a problem's shape is a normal clause
abbrev pub ClauseIsNormal : Type 0
ClauseIsNormal = (shape : Shape) (clause : List Lit) → shape.ships ≤ MOST_SHIPS → shape.slots ≤ 2 ^ 32 → IsClause shape clause → IsNormal clause

-- of two literals of a normal clause, the earlier one may be followed by the later one
abbrev pub ClauseAscends : Type 0
ClauseAscends = (shape : Shape) (clause : List Lit) (a b : ℕ) (l m : Lit) → IsClause shape clause → a < b → slice_get clause a ≡ Some l → slice_get clause b ≡ Some m → may_follow l m ≡ true

-- a normal clause has at most one lower bound and one upper one of each ship, and at most one order of each pair
abbrev pub OneOfASide : Type 0
OneOfASide = (shape : Shape) (clause : List Lit) (a b : ℕ) (l m : Lit) → IsClause shape clause → slice_get clause a ≡ Some l → slice_get clause b ≡ Some m → place_of l ≡ place_of m → a ≡ b
