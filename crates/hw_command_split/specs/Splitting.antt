-- `split` of any subject: a certificate is checked as by `verify`, and a split is made by the best that it knows.
use Rattle.std.specs.Prelude.{◌≡◌, ◌≤◌, ℕ, List, Option, Some, None, IfSome, length}
use Rattle.hw_model.specs.Problem.{shape_of}
use Rattle.hw_desk.specs.State.{DeskState}
use Rattle.hw_desk.specs.declared.desk.Feed.TheVariants.{Certificate}
use Rattle.hw_desk.specs.declared.desk.Tray.TheVariants as tray
use Rattle.hw_cert.specs.declared.version.Version.TheVariants.{Three}
use Rattle.hw_report.specs.Reports.{Report, parts_told, refused, too_long}
use Rattle.hw_command.specs.Carries.{Task}
use Rattle.hw_command.specs.Scope.{MakesProof}
use Rattle.hw_command.specs.Sending.{IsCutOf}
use Rattle.hw_command.specs.declared.outcome.CertOutcome.TheVariants.{Shows, Wrong, TooLong}
use Rattle.hw_split_text.specs.declared.node.Node.{Node}
use Rattle.hw_split_text.specs.Splits.{IsSplit, split_parts}
use Rattle.hw_split_text.specs.Written.{written_split}
use Rattle.hw_subject.specs.Meanings.{judged}
use Rattle.hw_subject.specs.Shown.{Refused, Starts}
use Rattle.hw_subject.specs.Subjects.{Subject}
use Rattle.hw_subject.specs.CertTasks.{cert_task}
use Rattle.hw_command_split.specs.MadeSplits.{open_best}

-- what is read, what the certificate shows, and a split of the judged problem of at most this many parts, of one where that leaves nothing open
pub record MakesSplit (s : Subject) (parts : ℕ) (start : List ℕ) (held : List ℕ → Option (List ℕ)) : Type 0 where
  pub starts : Starts s start held
  pub nodes : List Node
  pub is : IsSplit (shape_of (judged s starts.value)) nodes
  pub few : length (split_parts nodes) ≤ parts
  pub undivided : open_best (Shows starts.shows) ≡ None → length (split_parts nodes) ≡ 1

-- how many parts the split has; it was made, and holds its text, where it is told
pub record SplitDone (s : Subject) (parts : ℕ) (start proof : List ℕ) (old new : DeskState) (count : ℕ) : Type 0 where
  pub makes : MakesSplit s parts start old.held
  pub counted : count ≡ length (split_parts makes.nodes)
  pub made : MakesProof proof old new
  pub text : IfSome (new.trays tray.Proof).sent (λ bytes. bytes ≡ written_split makes.nodes)

-- a make or a write of the split failed: a proper prefix of its text was sent, where that is told
pub record SplitBreaks (s : Subject) (parts : ℕ) (start : List ℕ) (old new : DeskState) : Type 0 where
  pub makes : MakesSplit s parts start old.held
  pub cut : IfSome (new.trays tray.Proof).sent (IsCutOf (written_split makes.nodes))

-- what a report says of the inputs, of the certificate and of the split, each as far as it is told; none is a write fault on the split, and nothing else is printed. Nothing is said of the number of tolls
abbrev pub SplitSays : Subject → ℕ → List ℕ → List ℕ → DeskState → DeskState → Option Report → Type 0
SplitSays s parts start proof old new None = SplitBreaks s parts start old new
SplitSays s parts start proof old new (Some (parts_told count tolls)) = SplitDone s parts start proof old new count
SplitSays s parts start proof old new (Some (refused number word hint)) = Refused s Three start old.held (Wrong number word hint)
SplitSays s parts start proof old new (Some (too_long Certificate)) = Refused s Three start old.held TooLong
SplitSays s parts start proof old new (Some r) = s.Refuses old.held r

abbrev pub split_task : Subject → ℕ → List ℕ → List ℕ → Task
split_task s parts start proof = cert_task s start (Some proof) (SplitSays s parts start proof)
