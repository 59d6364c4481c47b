-- Certificates that are joined, and what comes of them.
use Rattle.std.specs.Prelude.{◌≡◌, ℕ, ◌-◌, ◌≤◌, Bool, true, false, List, [], Option, Some, None, Result, Ok, Err, All, IfSome, IsSomeAnd, Vec, take, ⊤}
use Rattle.std.specs.declared.alloc.Global.{Global}
use Rattle.hw_model.specs.declared.lit.Lit.{Lit}
use Rattle.hw_model.specs.Problem.{Problem, shape_of}
use Rattle.hw_model.specs.Rooms.{RoomModel}
use Rattle.hw_model.specs.Timetables.{cargo}
use Rattle.hw_cert_lines.specs.declared.line.Line.{Line}
use Rattle.hw_cert_lines.specs.declared.line.Line.TheVariants as lines
use Rattle.hw_cert_lines.specs.Lines.{best_of, is_closed}
use Rattle.hw_cert_lines.specs.Tolled.{bound_of}
use Rattle.hw_cert_lines.specs.Valid.{LineFits, Valid, verdict}
use Rattle.hw_split_text.specs.declared.node.Node.{Node}
use Rattle.hw_split_text.specs.Splits.{Branch, branch_room, part_at, split_parts}
use Rattle.hw_cert_course.specs.declared.going_on.Course.{Course}
use Rattle.hw_cert_course.specs.declared.stop.CourseStop.{CourseStop}
use Rattle.hw_cert_course.specs.Courses.{AddsClause, CourseStopsFor, ExtendsBy}
use Rattle.hw_cert_closes.specs.Closing.{closes_room}
use Rattle.hw_cert_join.specs.declared.junction.Junction.{Junction}
use Rattle.hw_cert_join.specs.declared.parts.Closing.{Closing}
use Rattle.hw_cert_join.specs.declared.parts.Closing.TheVariants as closings
use Rattle.hw_cert_join.specs.declared.joined.Joined.{Joined}

-- ---- lines that are taken

-- lines of the problem's shape, certificate by certificate
abbrev pub FitEach : Problem → List (Vec Line Global) → Type 0
FitEach f certs = All (λ cert. All (LineFits f) cert.items) certs

-- these lines close each room that those close
abbrev pub ClosesWhat : List Line → List Line → Type 0
ClosesWhat all given = (room : RoomModel) → closes_room room given ≡ true → closes_room room all ≡ true

-- some lines were added, or none, and now each room is closed that these lines close
pub record TakesOver (before after : Course) (given : List Line) : Type 0 where
  pub extends : ExtendsBy before after
  pub closes : ClosesWhat after.lines.items given

-- the same of each certificate
pub record TakesOverEach (before after : Course) (certs : List (Vec Line Global)) : Type 0 where
  pub extends : ExtendsBy before after
  pub closes : All (λ cert. ClosesWhat after.lines.items cert.items) certs

abbrev pub TakingMeets : Junction → List Line → Result Junction CourseStop → Type 0
TakingMeets junction given (Ok after) = TakesOver junction.course after.course given
TakingMeets junction given (Err stop) = CourseStopsFor junction.course.flat.now junction.course.lines.items stop

abbrev pub TakingAllMeets : Course → List (Vec Line Global) → Result Course CourseStop → Type 0
TakingAllMeets course certs (Ok after) = TakesOverEach course after certs
TakingAllMeets course certs (Err stop) = CourseStopsFor course.flat.now course.lines.items stop

-- some lines were added, or none, and of clauses this one alone, if there is one
abbrev pub JunctionAdds : Junction → Option (List Lit) → Result Junction CourseStop → Type 0
JunctionAdds junction clause (Ok after) = AddsClause junction.course after.course clause
JunctionAdds junction clause (Err stop) = CourseStopsFor junction.course.flat.now junction.course.lines.items stop

-- some lines were added, or none, and nothing is left open
pub record LeavesNoneOpen (before after : Course) : Type 0 where
  pub extends : ExtendsBy before after
  pub closed : is_closed after.lines.items ≡ true

abbrev pub EndingMeets : Course → Result Course CourseStop → Type 0
EndingMeets course (Ok after) = LeavesNoneOpen course after
EndingMeets course (Err stop) = CourseStopsFor course.flat.now course.lines.items stop

-- ---- the best timetable

-- where there is a cargo, there is a best one, and it is at least that
abbrev pub IsNoMore : Option ℕ → Option ℕ → Type 0
IsNoMore cargo best = IfSome cargo (λ c. IsSomeAnd best (λ most. c ≤ most))

-- the line's timetable, if it is one, carries no more than the best
abbrev pub CarriesNoMore : Problem → Option ℕ → Line → Type 0
CarriesNoMore f best (lines.Table table) = IsNoMore (cargo f table) best
CarriesNoMore f best line = ⊤

-- no timetable of these certificates carries more than the best
abbrev pub EachCarriesNoMore : Problem → Option ℕ → List (Vec Line Global) → Type 0
EachCarriesNoMore f best certs = All (λ cert. All (CarriesNoMore f best) cert.items) certs

-- some lines were added, or none, and now no timetable of these certificates carries more than the best
pub record TakesBest (before after : Course) (certs : List (Vec Line Global)) : Type 0 where
  pub extends : ExtendsBy before after
  pub best : EachCarriesNoMore before.flat.now (best_of before.flat.now after.lines.items) certs

abbrev pub BestMeets : Course → List (Vec Line Global) → Result Course CourseStop → Type 0
BestMeets course certs (Ok after) = TakesBest course after certs
BestMeets course certs (Err stop) = CourseStopsFor course.flat.now course.lines.items stop

-- ---- the parts

-- the lines close the branch's room
abbrev pub closes_branch : Problem → List Line → Branch → Bool
closes_branch f all branch = closes_room (branch_room (shape_of f) branch) all

-- the lines close each part
abbrev pub ClosesEach : Problem → List Node → List Line → Type 0
ClosesEach f nodes all = All (λ branch. closes_branch f all branch ≡ true) (split_parts nodes)

-- the lines don't close the part of this number, but each one before it
pub record IsFirstOpen (f : Problem) (nodes : List Node) (all : List Line) (number : ℕ) : Type 0 where
  pub part : IsSomeAnd (part_at nodes number) (λ branch. closes_branch f all branch ≡ false)
  pub earlier : All (λ branch. closes_branch f all branch ≡ true) (take (number - 1) (split_parts nodes))

-- the first part that the lines don't close, or none where they close each
abbrev pub OpenAt : Problem → List Node → List Line → Option ℕ → Type 0
OpenAt f nodes all None = ClosesEach f nodes all
OpenAt f nodes all (Some number) = IsFirstOpen f nodes all number

abbrev pub ClosingIs : Problem → List Node → List Line → Closing → Type 0
ClosingIs f nodes all (closings.Each numbers) = ClosesEach f nodes all
ClosingIs f nodes all (closings.FirstOpen number) = IsFirstOpen f nodes all number

-- ---- what comes of them

-- what the lines of a course show
pub record TellsJoined (course : Course) (part : Option ℕ) (j : Joined) : Type 0 where
  pub lines : j.lines.items ≡ course.lines.items
  pub verdict : j.verdict ≡ verdict course.flat.now course.lines.items
  pub bound : j.bound ≡ bound_of course.lines.items
  pub first : j.first_open ≡ part

-- lines of the problem, each valid after those before it, what they show, and the first part that they don't close. Where they close each, nothing is left open
pub record JoinsLines (f : Problem) (nodes : List Node) (j : Joined) : Type 0 where
  pub fit : All (LineFits f) j.lines.items
  pub valid : Valid f j.lines.items
  pub verdict : j.verdict ≡ verdict f j.lines.items
  pub bound : j.bound ≡ bound_of j.lines.items
  pub first : OpenAt f nodes j.lines.items j.first_open
  pub closed : j.first_open ≡ None → is_closed j.lines.items ≡ true

-- such lines, which close each room that the lines of one certificate close, and whose best no timetable of a certificate exceeds
pub record JoinsEach (f : Problem) (nodes : List Node) (certs : List (Vec Line Global)) (j : Joined) : Type 0 where
  pub joins : JoinsLines f nodes j
  pub closes : All (λ cert. ClosesWhat j.lines.items cert.items) certs
  pub best : EachCarriesNoMore f (best_of f j.lines.items) certs

-- what joining meets. It needs lines and a split of the problem
abbrev pub JoinMeets : Problem → List Node → List (Vec Line Global) → Result Joined CourseStop → Type 0
JoinMeets f nodes certs (Ok j) = JoinsEach f nodes certs j
JoinMeets f nodes certs (Err stop) = CourseStopsFor f [] stop
