-- Quiet clauses and new lemmas.
use Rattle.std.specs.Prelude.{◌≡◌, true, false, List}
use Rattle.hw_model.specs.declared.lit.Lit.{Lit}
use Rattle.hw_model.specs.Lits.{negation}
use Rattle.hw_trail_laws.specs.Sides.{same_side}
use Rattle.hw_trail_laws.specs.Replays.{Facts}
use Rattle.hw_trail_laws.specs.Walks.{InClause}

-- neither the literal nor its negation is known
pub record Free (r : Facts) (l : Lit) : Type 0 where
  pub not_true : r l ≡ false
  pub not_false : r (negation l) ≡ false

-- a literal is true, or two are free
pub data Quiet (r : Facts) (c : List Lit) : Type 0 where
  ByTrue : (l : Lit) → InClause l c → r l ≡ true → Quiet r c
  ByTwo : (l m : Lit) → InClause l c → InClause m c → (l ≡ m → ⊥) → Free r l → Free r m → Quiet r c

-- a normal clause has one literal a side
abbrev pub OneASide : List Lit → Type 0
OneASide c = (l m : Lit) → InClause l c → InClause m c → same_side l m ≡ true → l ≡ m
