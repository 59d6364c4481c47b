-- The lines of a search, and what is told of a course that has taken them.
use Rattle.std.specs.Prelude.{◌≡◌, ℕ, ◌-◌, ◌^◌, ◌≤◌, Bool, true, false, List, All, length, min}
use Rattle.hw_model.specs.Problem.{Problem}
use Rattle.hw_model.specs.Rooms.{room_count}
use Rattle.hw_cert_lines.specs.declared.line.Line.{Line}
use Rattle.hw_cert_lines.specs.Lemmas.{lemmas_of}
use Rattle.hw_cert_lines.specs.Lines.{clause_count, is_closed, last_table}
use Rattle.hw_cert_lines.specs.Tolled.{bound_of, tolls_of}
use Rattle.hw_cert_lines.specs.Valid.{LineFits, verdict}
use Rattle.hw_cert_course.specs.declared.going_on.Course.{Course}
use Rattle.hw_cert_course.specs.declared.raising.Raise.{Raise}
use Rattle.hw_search_resumed.specs.declared.resumed.Resumed.{Resumed}

-- the lines of a search of the problem, and whether its budget is spent
pub record IsSearched (f : Problem) (budget : ℕ) (is_spent : Bool) (found : List Line) : Type 0 where
  pub fit : All (LineFits f) found
  pub few : length (lemmas_of found) ≤ budget
  pub spent : is_spent ≡ true → (length (lemmas_of found) ≡ budget) × (budget ≤ room_count f)

-- what the lines of a course show
pub record TellsOf (course : Course) (is_spent : Bool) (r : Resumed) : Type 0 where
  pub lines : r.lines.items ≡ course.lines.items
  pub verdict : r.verdict ≡ verdict course.flat.now course.lines.items
  pub bound : r.bound ≡ bound_of course.lines.items
  pub table : r.table ≡ last_table course.lines.items
  pub spent : r.is_spent ≡ true → (is_spent ≡ true) × (is_closed course.lines.items ≡ false)

-- numbers are raised by how many clauses and tolls the lines have, as far as they go
pub record RaisesPast (start : List Line) (by : Raise) : Type 0 where
  pub clauses : by.clauses ≡ min (clause_count start) (2 ^ 32 - 1)
  pub tolls : by.tolls ≡ min (length (tolls_of start)) (2 ^ 32 - 1)
