-- A search within a part that goes on from the lines of a certificate, and a longer certificate that is sent to Proof.
use Rattle.std.specs.Prelude.{◌≡◌, ◌⊎◌, ℕ, ◌+◌, Bool, List, Some, None, Result, codes, length}
use Rattle.hw_model.specs.Problem.{Problem, shape_of}
use Rattle.hw_model.specs.Rooms.{RoomModel}
use Rattle.hw_desk.specs.State.{DeskState}
use Rattle.hw_desk.specs.declared.desk.DeskFailed.{DeskFailed}
use Rattle.hw_desk.specs.declared.desk.Feed.TheVariants.{Split}
use Rattle.hw_cert.specs.declared.version.Version.TheVariants.{Three}
use Rattle.hw_cert.specs.Texts.{cert_text}
use Rattle.hw_report.specs.Reports.{Report, bad_text, no_memory}
use Rattle.hw_command.specs.Sending.{SendsTo}
use Rattle.hw_command.specs.declared.outcome.CertOutcome.{CertOutcome}
use Rattle.hw_command.specs.declared.outcome.CertStop.{CertStop}
use Rattle.hw_search_resumed.specs.Parts.{PartGoesOn, PartStopsFor}
use Rattle.hw_search_resumed.specs.declared.resumed.Parted.{Parted}
use Rattle.hw_cert_course.specs.declared.stop.CourseStop.{CourseStop}
use Rattle.hw_split_text.specs.declared.node.Node.{Node}
use Rattle.hw_split_text.specs.Rooms.{HasRoom}
use Rattle.hw_split_text.specs.Splits.{Branch, branch_room, part_at}
use Rattle.hw_command.specs.Readings.{KeepsLines}
use Rattle.hw_command.specs.Starting.{StartsCourse, Unstarted, stop_outcome}
use Rattle.hw_command.specs.WorkEnds.{WorkEnds}
use Rattle.hw_command.specs.declared.ending.Ending.{Ending}
use Rattle.hw_cert_course.specs.declared.going_on.Course.{Course}

-- ---- the part

-- the room of the part of this number, which holds what its literals are true of
pub record IsPartRoom (f : Problem) (nodes : List Node) (number : ℕ) (room : RoomModel) : Type 0 where
  pub branch : Branch
  pub part : part_at nodes number ≡ Some branch
  pub is : room ≡ branch_room (shape_of f) branch
  pub has : HasRoom (shape_of f) branch

-- the split has no part of this number, which is told of its last line
pub record LacksRoom (nodes : List Node) (number : ℕ) (r : Report) : Type 0 where
  pub lacks : part_at nodes number ≡ None
  pub report : r ≡ bad_text Split (length nodes + 2) (codes "node")

abbrev pub NoPartRoom : List Node → ℕ → Report → Type 0
NoPartRoom nodes number r = (r ≡ no_memory) ⊎ LacksRoom nodes number r

-- ---- over a desk

-- the search that went on from the certificate has no answer
pub record PartUnanswered (f : Problem) (room : RoomModel) (start : List ℕ) (old new : DeskState) (stopped : Result CertOutcome CertStop) : Type 0 where
  pub course : Course
  pub starts : StartsCourse f start old new course
  pub stop : CourseStop
  pub cause : PartStopsFor f course.lines.items room stop
  pub told : stopped ≡ stop_outcome stop

-- its lines with those that the search added are sent to Proof; whether they close the part
pub record SendsParted (f : Problem) (room : RoomModel) (start : List ℕ) (budget : ℕ) (proof : List ℕ) (old new : DeskState) (is_closed : Bool) (sent : Result Unit DeskFailed) : Type 0 where
  pub mid : DeskState
  pub course : Course
  pub starts : StartsCourse f start old mid course
  pub parted : Parted
  pub closed : is_closed ≡ parted.is_closed
  pub goes_on : PartGoesOn f budget course.lines.items room parted
  pub sends : SendsTo proof (cert_text Three parted.lines.items) mid new sent

-- nothing is sent where the certificate isn't gone on from
abbrev pub PartingStops : Problem → RoomModel → List ℕ → DeskState → DeskState → Result CertOutcome CertStop → Type 0
PartingStops f room start old new stopped = Unstarted KeepsLines f start old new stopped ⊎ PartUnanswered f room start old new stopped

-- what comes of a certificate
abbrev pub PartsTo : Problem → RoomModel → List ℕ → ℕ → List ℕ → DeskState → DeskState → Ending Bool → Type 0
PartsTo f room start budget proof old new end = WorkEnds (PartingStops f room start) (SendsParted f room start budget proof) old new end
