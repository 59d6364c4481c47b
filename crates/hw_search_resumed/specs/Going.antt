-- What a search that goes on from a start leaves.
use Rattle.std.specs.Prelude.{◌≡◌, ℕ, ◌≤◌, true, false, List, Result, Ok, Err, length, ⊤}
use Rattle.hw_model.specs.Problem.{Problem}
use Rattle.hw_model.specs.Rooms.{room_count}
use Rattle.hw_cert_lines.specs.declared.check.Refusal.{Refusal}
use Rattle.hw_cert_lines.specs.declared.line.Line.{Line}
use Rattle.hw_cert_lines.specs.Lemmas.{lemmas_of}
use Rattle.hw_cert_lines.specs.Lines.{is_closed, last_table}
use Rattle.hw_cert_lines.specs.Tolled.{bound_of}
use Rattle.hw_cert_lines.specs.Valid.{verdict}
use Rattle.hw_cert_course.specs.declared.stop.CourseStop.{CourseStop}
use Rattle.hw_cert_course.specs.declared.stop.CourseStop.TheVariants as stops
use Rattle.hw_cert_course.specs.Going.{LineFails, LinesGoOn}
use Rattle.hw_search_resumed.specs.declared.resumed.Resumed.{Resumed}

-- the budget is spent: there are as many new lemmas, no more than rooms, and no line without literals
pub record IsBudgetSpent (f : Problem) (budget : ℕ) (more all : List Line) : Type 0 where
  pub lemmas : length (lemmas_of more) ≡ budget
  pub unclosed : is_closed all ≡ false
  pub rooms : budget ≤ room_count f

-- lines that go on from the start, with no more new lemmas than the budget, and what they show
pub record Resumes (f : Problem) (budget : ℕ) (start : List Line) (r : Resumed) : Type 0 where
  pub goes_on : LinesGoOn f start r.lines.items
  pub few : length (lemmas_of goes_on.more) ≤ budget
  pub verdict : r.verdict ≡ verdict f r.lines.items
  pub bound : r.bound ≡ bound_of r.lines.items
  pub table : r.table ≡ last_table r.lines.items
  pub spent : r.is_spent ≡ true → IsBudgetSpent f budget goes_on.more r.lines.items

-- such a line ends the search. Where the start leaves nothing open, nothing is searched and no line is refused
pub record LineIsRefused (f : Problem) (start : List Line) (number : ℕ) (cause : Refusal) : Type 0 where
  pub unclosed : is_closed start ≡ false
  pub fails : LineFails f start number cause

-- why there is no answer; memory may run out at any time
abbrev pub ResumingStopsFor : Problem → List Line → CourseStop → Type 0
ResumingStopsFor f start (stops.Refused number cause) = LineIsRefused f start number cause
ResumingStopsFor f start stops.NoMemory = ⊤

-- what going on from a start meets. It needs a budget in its limit, and valid lines of the problem
abbrev pub ResumeMeets : Problem → ℕ → List Line → Result Resumed CourseStop → Type 0
ResumeMeets f budget start (Ok r) = Resumes f budget start r
ResumeMeets f budget start (Err stop) = ResumingStopsFor f start stop
