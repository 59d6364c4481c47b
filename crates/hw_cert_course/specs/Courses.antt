-- Lines that were taken, one after another, and how more of them are.
use Rattle.std.specs.Prelude.{◌≡◌, ◌⊎◌, ℕ, List, [], ◌∷◌, ◌++◌, Option, Some, None, Result, Ok, Err, length, ⊤}
use Rattle.std.specs.List.{cons_option}
use Rattle.hw_model.specs.declared.lit.Lit.{Lit}
use Rattle.hw_model.specs.Problem.{Problem}
use Rattle.hw_cert_lines.specs.declared.line.Line.{Line}
use Rattle.hw_cert_lines.specs.Lemmas.{lemmas_of}
use Rattle.hw_cert_lines.specs.Lines.{clauses_of}
use Rattle.hw_check.specs.Follows.{CheckerFollows}
use Rattle.hw_check.specs.declared.stop.CheckStop.{CheckStop}
use Rattle.hw_check.specs.declared.stop.CheckStop.TheVariants as check_stops
use Rattle.hw_cert_course.specs.declared.going_on.Course.{Course}
use Rattle.hw_cert_course.specs.declared.stop.CourseStop.{CourseStop}
use Rattle.hw_cert_course.specs.declared.stop.CourseStop.TheVariants as stops
use Rattle.hw_cert_course.specs.Going.{LineFails, SaysNoMore}

-- the checker follows the lines, and all is of this problem
pub record CourseStands (f : Problem) (course : Course) : Type 0 where
  pub problem : course.flat.now ≡ f
  pub checked : course.checker.problem ≡ f
  pub follows : CheckerFollows course.checker course.lines.items

-- these lines were added
pub record AddsLines (before after : Course) (more : List Line) : Type 0 where
  pub stands : CourseStands before.flat.now after
  pub parts : after.lines.items ≡ before.lines.items ++ more

-- why the line of this number isn't taken
abbrev pub stop_as : ℕ → CheckStop → CourseStop
stop_as number (check_stops.Refused cause) = stops.Refused number cause
stop_as number check_stops.NoMemory = stops.NoMemory

-- why no more lines of a course are taken; memory may run out at any time
abbrev pub CourseStopsFor : Problem → List Line → CourseStop → Type 0
CourseStopsFor f before (stops.Refused number cause) = LineFails f before number cause
CourseStopsFor f before stops.NoMemory = ⊤

-- one more line was taken, or the checker refused it
abbrev pub TakeMeets : Course → Line → Result Course CourseStop → Type 0
TakeMeets course line (Ok after) = AddsLines course after (line ∷ [])
TakeMeets course line (Err stop) = CourseStopsFor course.flat.now course.lines.items stop

-- what stands for lines that were handed on has as many lemmas
pub record HandsToCourse (before after : Course) (found : List Line) : Type 0 where
  pub more : List Line
  pub adds : AddsLines before after more
  pub lemmas : length (lemmas_of more) ≡ length (lemmas_of found)

abbrev pub HandsAllToCourse : Course → List Line → Result Course CourseStop → Type 0
HandsAllToCourse course found (Ok after) = HandsToCourse course after found
HandsAllToCourse course found (Err stop) = CourseStopsFor course.flat.now course.lines.items stop

abbrev pub HandMeets : Course → Line → Result Course CourseStop → Type 0
HandMeets course line result = HandsAllToCourse course (line ∷ []) result

-- some lines were added, or none
pub record ExtendsBy (before after : Course) : Type 0 where
  pub more : List Line
  pub adds : AddsLines before after more

-- of clauses this one alone, if there is one
pub record AddsClause (before after : Course) (clause : Option (List Lit)) : Type 0 where
  pub more : List Line
  pub adds : AddsLines before after more
  pub clauses : clauses_of more ≡ cons_option clause []

-- the line says no more than those before it, and the course is the one before
pub record LeavesOut (before after : Course) (line : Line) : Type 0 where
  pub no_more : SaysNoMore before.flat.now before.checker.kept line
  pub same : after ≡ before

-- a line was taken, or says no more than those before it
abbrev pub OfferingMeets : Course → Line → Result Course CourseStop → Type 0
OfferingMeets course line (Ok after) = AddsLines course after (line ∷ []) ⊎ LeavesOut course after line
OfferingMeets course line (Err stop) = CourseStopsFor course.flat.now course.lines.items stop

-- the same of a line, if there is one
abbrev pub OfferingOneMeets : Course → Option Line → Result Course CourseStop → Type 0
OfferingOneMeets course (Some line) result = OfferingMeets course line result
OfferingOneMeets course None result = result ≡ Ok course
