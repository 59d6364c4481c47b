-- What the search for a broken restriction says of a timetable.
use Rattle.std.proofs.Common.{◌≡◌, ◌↔◌, ℕ, Bool, false, List, Option, Some, None, IsTrue, is_some, not, true, sym, ◌∙◌, refl}
use Rattle.hw_model.specs.Problem.{Problem, IsTimetable}
use Rattle.hw_model.specs.Timetables.{Permits, FirstBroken, first_broken}
use Rattle.hw_model_laws.proofs.Broken.{permits_from, from_permits, is_first_broken}

-- none is found exactly where the timetable is permitted
pub none_broken : (f : Problem) (table : List ℕ) → IsTimetable f table → None ≡ first_broken f table → Permits f table
none_broken f table listed e = permits_from f table listed (sym e)

-- one that is found is the first, and the timetable isn't permitted
pub some_broken : (f : Problem) (table : List ℕ) (n : ℕ) → Some n ≡ first_broken f table → FirstBroken f table n
some_broken f table n e = is_first_broken f table n (sym e)

pub not_permitted : (f : Problem) (table : List ℕ) (n : ℕ) → Some n ≡ first_broken f table → Permits f table → ⊥
not_permitted f table n e permits = clash n (e ∙ from_permits f table permits)
  where
    clash : (n : ℕ) → Some n ≡ None → ⊥
    clash n e = cc

-- the test that none is found
pub test_permits : (f : Problem) (table : List ℕ) (o : Option ℕ) (b : Bool) → IsTimetable f table → o ≡ first_broken f table → is_some o ≡ not b → (IsTrue b ↔ Permits f table)
test_permits f table None true listed e t = (λ yes. none_broken f table listed e, λ permits. refl)
test_permits f table None false listed e t = absurd cc
test_permits f table (Some n) true listed e t = absurd cc
test_permits f table (Some n) false listed e t = (λ yes. absurd cc, λ permits. absurd (not_permitted f table n e permits))
