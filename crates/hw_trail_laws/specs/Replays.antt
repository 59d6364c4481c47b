-- A room as the literals that are true there, and the replay of clauses.
use Rattle.std.specs.Prelude.{◌≡◌, Bool, true, false, ◌&&◌, ◌||◌, ◌⊎◌, not, cond, List, [], ◌∷◌, MatchBool}
use Rattle.hw_model.specs.declared.lit.Lit.{Lit}
use Rattle.hw_model.specs.Lits.{negation}
use Rattle.hw_trail_laws.specs.Sides.{same_side, implies}

-- a room, seen as its literals
abbrev pub Facts : Type 0
Facts = Lit → Bool

-- s lies inside r
abbrev pub Narrower : Facts → Facts → Type 0
Narrower s r = (m : Lit) → r m ≡ true → s m ≡ true

-- with one more literal and all that it implies
abbrev pub adding : Lit → Facts → Facts
adding l r = λ m. implies l m || r m

-- without what is known of the side of l
abbrev pub dropping : Lit → Facts → Facts
dropping l r = λ m. r m && not (same_side l m)

-- the literals of a clause that aren't false
abbrev pub left : Facts → List Lit → List Lit
left r [] = []
left r (l ∷ c) = cond (r (negation l)) (left r c) (l ∷ left r c)

-- one of the literals is known
abbrev pub any_true : Facts → List Lit → Bool
any_true r [] = false
any_true r (l ∷ c) = r l || any_true r c

-- after one clause of which these literals aren't false: the conflict, or no change, or one adding, or loose
abbrev pub after_one_clause : List Lit → Facts → (Facts → Type 0) → Type 0
after_one_clause [] r go = Unit {0}
after_one_clause (e ∷ []) r go = MatchBool (r e) (go r) (go (adding e r))
after_one_clause (e ∷ f ∷ more) r go = MatchBool (any_true r (e ∷ f ∷ more)) (go r) ⊥

-- the replay of the clauses from the room meets a conflict
abbrev pub meets : List (List Lit) → Facts → Type 0
meets [] r = ⊥
meets (c ∷ cs) r = after_one_clause (left r c) r (meets cs)

-- what is known is closed under what it implies, and no literal is known beside its negation
pub record World (r : Facts) : Type 0 where
  pub closed : (l m : Lit) → r l ≡ true → implies l m ≡ true → r m ≡ true
  pub consistent : (m : Lit) → r m ≡ true → r (negation m) ≡ true → ⊥

-- e is in the clause once, and each other literal is false
abbrev pub AllDenied : Facts → List Lit → Type 0
AllDenied r [] = Unit {0}
AllDenied r (l ∷ c) = (r (negation l) ≡ true) × AllDenied r c

-- the literal stands in the clause, and all others are false
abbrev pub OnlyLeft : Facts → Lit → List Lit → Type 0
OnlyLeft r e [] = ⊥
OnlyLeft r e (l ∷ c) = ((l ≡ e) × AllDenied r c) ⊎ ((r (negation l) ≡ true) × OnlyLeft r e c)
