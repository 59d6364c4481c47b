-- What a search within a part leaves.
use Rattle.std.specs.Prelude.{◌≡◌, ℕ, ◌+◌, ◌≤◌, true, false, List, [], Result, Ok, Err, length, ⊤}
use Rattle.hw_model.specs.Problem.{Problem}
use Rattle.hw_model.specs.Rooms.{RoomModel, room_count}
use Rattle.hw_cert_lines.specs.declared.check.Refusal.{Refusal}
use Rattle.hw_cert_lines.specs.declared.line.Line.{Line}
use Rattle.hw_cert_lines.specs.Lemmas.{lemmas_of}
use Rattle.hw_cert_course.specs.declared.going_on.Course.{Course}
use Rattle.hw_search_resumed.specs.declared.resumed.Parted.{Parted}
use Rattle.hw_cert_course.specs.declared.stop.CourseStop.{CourseStop}
use Rattle.hw_cert_course.specs.declared.stop.CourseStop.TheVariants as stops
use Rattle.hw_cert_closes.specs.Closing.{closes_room}
use Rattle.hw_cert_course.specs.Courses.{AddsLines, CourseStopsFor}
use Rattle.hw_cert_course.specs.Going.{LineFails, LinesGoOn}

-- lines were added, with one lemma at most
pub record AddsClosing (before after : Course) : Type 0 where
  pub more : List Line
  pub adds : AddsLines before after more
  pub few : length (lemmas_of more) ≤ 1

abbrev pub ClosesCourse : Course → Result Course CourseStop → Type 0
ClosesCourse course (Ok after) = AddsClosing course after
ClosesCourse course (Err stop) = CourseStopsFor course.flat.now course.lines.items stop

-- lines that go on from the start, with no more new lemmas than the budget and one that closes the room; whether they close it; where they don't, the budget is spent, and is no more than rooms; and where the start closes it, no line is new
pub record PartGoesOn (f : Problem) (budget : ℕ) (start : List Line) (room : RoomModel) (p : Parted) : Type 0 where
  pub goes_on : LinesGoOn f start p.lines.items
  pub few : length (lemmas_of goes_on.more) ≤ budget + 1
  pub closed : p.is_closed ≡ closes_room room p.lines.items
  pub spent : p.is_closed ≡ false → budget ≤ length (lemmas_of goes_on.more)
  pub rooms : p.is_closed ≡ false → budget ≤ room_count f
  pub idle : closes_room room start ≡ true → goes_on.more ≡ []

-- such a line ends the search. Where the start closes the room, nothing is searched and no line is refused
pub record LineIsRefusedIn (f : Problem) (start : List Line) (room : RoomModel) (number : ℕ) (cause : Refusal) : Type 0 where
  pub unclosed : closes_room room start ≡ false
  pub fails : LineFails f start number cause

-- why there is no answer; memory may run out at any time
abbrev pub PartStopsFor : Problem → List Line → RoomModel → CourseStop → Type 0
PartStopsFor f start room (stops.Refused number cause) = LineIsRefusedIn f start room number cause
PartStopsFor f start room stops.NoMemory = ⊤

-- what a search within a part meets. It needs a budget in its limit, valid lines and a room of the problem
abbrev pub WithinPartMeets : Problem → ℕ → List Line → RoomModel → Result Parted CourseStop → Type 0
WithinPartMeets f budget start room (Ok p) = PartGoesOn f budget start room p
WithinPartMeets f budget start room (Err stop) = PartStopsFor f start room stop
