-- What a search within a part leaves.
use Rattle.std.proofs.Common.{◌≡◌, ◌∙◌, ◌++◌, ℕ, List, [], Bool, true, false, refl, sym, ap, subst, append_assoc, append-nil, arith}
use Rattle.std.specs.Prelude.{All}
use Rattle.hw_model.specs.Problem.{Problem}
use Rattle.hw_model.specs.Rooms.{RoomModel}
use Rattle.hw_cert_lines.specs.declared.line.Line.{Line}
use Rattle.hw_cert_lines.specs.Valid.{LineFits, Valid}
use Rattle.hw_cert_closes.specs.Closing.{closes_room}
use Rattle.hw_cert_course.specs.Courses.{CourseStands, CourseStopsFor, HandsToCourse}
use Rattle.hw_search_resumed.specs.Searched.{IsSearched}
use Rattle.hw_cert_course.specs.Going.{LinesGoOn}
use Rattle.hw_search_resumed.specs.Parts.{AddsClosing, PartGoesOn, PartStopsFor}
use Rattle.hw_cert_course.specs.declared.going_on.Course.{Course}
use Rattle.hw_search_resumed.specs.declared.resumed.Parted.{Parted}
use Rattle.hw_cert_course.specs.declared.stop.CourseStop.{CourseStop}
use Rattle.hw_cert_course.specs.declared.stop.CourseStop.TheVariants as stops
use Rattle.hw_cert_course.proofs.Handed.{lemmas_on, stops_on, whole_course}

-- ---- the lines of a course

-- what holds of the lines of a course that goes on from a start
abbrev pub goes_on_from : {f : Problem} {start all : List Line} {course : Course} (more : List Line) → CourseStands f course → all ≡ course.lines.items → course.lines.items ≡ start ++ more → LinesGoOn f start all
goes_on_from {f = f} more h same parts =
    let whole = whole_course h in
    record {
      more = more;
      parts = same ∙ parts;
      fit = subst (λ (ls : List Line). All (LineFits f) ls) (sym same) whole.fit;
      valid = subst (λ (ls : List Line). Valid f ls) (sym same) whole.valid;
    }

-- the start closes the part
pub start_closes : {f : Problem} {budget : ℕ} {room : RoomModel} {course : Course} {p : Parted} → CourseStands f course → p.lines.items ≡ course.lines.items → p.is_closed ≡ true → closes_room room course.lines.items ≡ true → PartGoesOn f budget course.lines.items room p
start_closes {room = room} {course = course} h lines is closes = record {
  goes_on = goes_on_from [] h lines (sym (append-nil course.lines.items));
  few = omega arith;
  closed = is ∙ sym closes ∙ ap (closes_room room) (sym lines);
  spent = λ e. absurd (cc);
  rooms = λ e. absurd (cc);
  idle = λ e. refl;
}

-- whether the start closes the part, by what was read of it
pub start_is : (room : RoomModel) (taken all : List Line) (is_closed value : Bool) → is_closed ≡ closes_room room taken → taken ≡ all → is_closed ≡ value → closes_room room all ≡ value
start_is room taken all is_closed value says is e = sym (ap (closes_room room) is) ∙ sym says ∙ e

-- a line was refused, or memory ran out
stops_in : (f : Problem) (start : List Line) (room : RoomModel) (stop : CourseStop) → closes_room room start ≡ false → CourseStopsFor f start stop → PartStopsFor f start room stop
stops_in f start room (stops.Refused number cause) unclosed h = record { unclosed = unclosed; fails = h }
stops_in f start room stops.NoMemory unclosed h = tt

-- the same of a line of the search
pub search_stops : {f : Problem} {course : Course} (room : RoomModel) (stop : CourseStop) → CourseStands f course → closes_room room course.lines.items ≡ false → CourseStopsFor course.flat.now course.lines.items stop → PartStopsFor f course.lines.items room stop
search_stops {f = f} {course = course} room stop h unclosed k =
    let start = course.lines.items in
    stops_in f start room stop unclosed (stops_on f course.flat.now start start [] stop h.problem (sym (append-nil start)) k)

-- the same of a line that closes the part
pub closing_stops : {f : Problem} {found : List Line} {course after : Course} (room : RoomModel) (stop : CourseStop) → CourseStands f course → closes_room room course.lines.items ≡ false → HandsToCourse course after found → CourseStopsFor after.flat.now after.lines.items stop → PartStopsFor f course.lines.items room stop
closing_stops {f = f} {course = course} {after = after} room stop h unclosed k s = stops_in f course.lines.items room stop unclosed (stops_on f after.flat.now course.lines.items after.lines.items k.more stop (k.adds.stands.problem ∙ h.problem) k.adds.parts s)

-- what the search found, and lines that close the part, were taken
last_stands : {f : Problem} {found : List Line} {course after last : Course} → CourseStands f course → HandsToCourse course after found → AddsClosing after last → CourseStands f last
last_stands {f = f} {after = after} {last = last} h k c =
    let there : CourseStands f after = subst (λ (g : Problem). CourseStands g after) h.problem k.adds.stands in
    subst (λ (g : Problem). CourseStands g last) there.problem c.adds.stands

pub last_fit : {f : Problem} {found : List Line} {course after last : Course} (all : List Line) → CourseStands f course → HandsToCourse course after found → AddsClosing after last → all ≡ last.lines.items → All (LineFits f) all
last_fit {f = f} all h k c is = subst (λ (ls : List Line). All (LineFits f) ls) (sym is) (whole_course (last_stands h k c)).fit

-- the search has ended
pub went_on_in : {f : Problem} {budget : ℕ} {found : List Line} {room : RoomModel} {course after last : Course} {p : Parted} {is_spent : Bool} → CourseStands f course → closes_room room course.lines.items ≡ false → IsSearched f budget is_spent found → HandsToCourse course after found → AddsClosing after last → p.lines.items ≡ last.lines.items → p.is_closed ≡ closes_room room last.lines.items → (p.is_closed ≡ false → is_spent ≡ true) → PartGoesOn f budget course.lines.items room p
went_on_in {f = f} {budget = budget} {found = found} {room = room} {course = course} {after = after} {last = last} h unclosed s k c lines closes spent =
    let start = course.lines.items in
    let parts : last.lines.items ≡ start ++ (k.more ++ c.more) = c.adds.parts ∙ ap (λ (ls : List Line). ls ++ c.more) k.adds.parts ∙ append_assoc start k.more c.more in
    let count = lemmas_on k.more c.more in
    record {
      goes_on = goes_on_from (k.more ++ c.more) (last_stands h k c) lines parts;
      few = omega (arith, count, k.lemmas, s.few, c.few);
      closed = closes ∙ ap (closes_room room) (sym lines);
      spent = λ e.
          let all = (s.spent (spent e)).0 in
          omega (arith, count, k.lemmas, all);
      rooms = λ e. (s.spent (spent e)).1;
      idle = λ e. absurd (cc);
    }
