-- The laws of the programme of a flat problem.
use Rattle.std.specs.Prelude.{◌≡◌, ◌<◌, ◌≤◌, ◌+◌, ◌*◌, ℕ, List, length, Some, slice_index, nat_eq, IsSome}
use Rattle.hw_model.specs.declared.limits.TheConstants.{MOST_SHIPS, MOST_RULES}
use Rattle.hw_flat_programme.specs.declared.limits.TheConstants.{MOST_RULE_ROWS}
use Rattle.hw_model.specs.Problem.{Problem, value_at}
use Rattle.hw_model.specs.Limits.{IsFlat}
use Rattle.hw_model.specs.Timetables.{Permits, cargo}
use Rattle.hw_flat_programme.specs.declared.format.Format.{Format}
use Rattle.hw_flat_programme.specs.declared.format.Format.TheVariants.{Lp, Opb}
use Rattle.hw_flat_programme.specs.Programmes.{Point, Satisfies, total}
use Rattle.hw_flat_programme.specs.Rows.{most_from, programme_of, rows_of}

-- of each ship the variable of its slot in the timetable is 1, and its others are 0
abbrev pub IsPointOf : Problem → List ℕ → Point → Type 0
IsPointOf f table p = (ship slot : ℕ) → ship < f.ships → slot < f.slots → IsSome (value_at f ship slot) → p ship slot ≡ nat_eq (slice_index table ship) slot

-- the points that satisfy the programme are those of the permitted timetables, one for each
pub record PointsArePermitted : Type 0 where
  pub permitted_satisfies : (format : Format) (f : Problem) (table : List ℕ) (p : Point) → IsFlat f → Permits f table → IsPointOf f table p → Satisfies p (programme_of format f)
  pub satisfying_is_permitted : (format : Format) (f : Problem) (p : Point) → IsFlat f → Satisfies p (programme_of format f) → (table : List ℕ) × Permits f table × IsPointOf f table p
  pub one_timetable : (f : Problem) (table other : List ℕ) (p : Point) → Permits f table → Permits f other → IsPointOf f table p → IsPointOf f other p → table ≡ other

-- at the point of a permitted timetable the objective is its cargo, and in OPB what that lacks of the most that all ships may carry
pub record ObjectiveIsCargo : Type 0 where
  pub greatest : (f : Problem) (table : List ℕ) (p : Point) → Permits f table → IsPointOf f table p → cargo f table ≡ Some (total p (programme_of Lp f).objective)
  pub least : (f : Problem) (table : List ℕ) (p : Point) (c : ℕ) → Permits f table → IsPointOf f table p → cargo f table ≡ Some c → total p (programme_of Opb f).objective + c ≡ most_from f 0 f.ships

-- a row for each ship, and some for each rule
abbrev pub RowsAreFew : Type 0
RowsAreFew = (f : Problem) → IsFlat f → length (rows_of f) ≤ MOST_SHIPS + MOST_RULES * MOST_RULE_ROWS
