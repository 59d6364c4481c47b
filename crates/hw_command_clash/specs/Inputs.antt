-- A clash text as an input: as which one it comes, and what it gives, or why it gives nothing.
use Rattle.std.specs.Prelude.{◌≡◌, ◌≤◌, ◌⊎◌, ℕ, List, Option, Some, None, Ok, Err, IfSome, length, if◌then◌else◌}
use Rattle.hw_model.specs.Limits.{IsFlat}
use Rattle.hw_desk.specs.State.{DeskState}
use Rattle.hw_desk.specs.declared.desk.Feed.{Feed}
use Rattle.hw_desk.specs.declared.desk.Feed.TheVariants as feeds
use Rattle.hw_desk.specs.declared.whole.ReadStop.{ReadStop}
use Rattle.hw_plan_texts.specs.declared.fault.LineFault.{LineFault}
use Rattle.hw_plan_texts.specs.declared.fault.LineFault.TheVariants as faults
use Rattle.hw_repair.specs.Wishes.{PlanParts}
use Rattle.hw_clash.specs.declared.fault.ClashWord.{ClashWord}
use Rattle.hw_clash.specs.Clashes.{Clash}
use Rattle.hw_clash.specs.Parts.{part}
use Rattle.hw_clash.specs.Read.{SaysClash}
use Rattle.hw_clash.specs.Text.{clash_text}
use Rattle.hw_clash.specs.Wished.{Wished}
use Rattle.hw_clash.specs.Words.{clash_word_text}
use Rattle.hw_report.specs.Reports.{Report, bad_text, no_memory}
use Rattle.hw_command.specs.Inputs.{Enters, StopsFor, report_of_stop}
use Rattle.hw_command.specs.Scope.{feed_is_among}
use Rattle.hw_command.specs.Values.{most_bytes}
use Rattle.hw_subject.specs.Subjects.{Subject}
use Rattle.hw_command_clash.specs.declared.part_input.Part.{Part}

-- as a plan where none is read before it, and otherwise beside that plan
abbrev pub clash_feed : Subject → Feed
clash_feed s = if feed_is_among s.inputs feeds.Plan then feeds.Clash else feeds.Plan

-- the same by the plan
abbrev pub feed_by : Option PlanParts → Feed
feed_by None = feeds.Plan
feed_by (Some plan) = feeds.Clash

-- the bytes keep the limit and are the text of this clash of the problem
abbrev pub IsClashText : Wished → Clash → List ℕ → Type 0
IsClashText f clash bytes = (length bytes ≤ most_bytes) × (clash_text f bytes ≡ Ok clash)

-- restrictions of the problem, and for each of them a timetable that meets the others: those of the text where it is told
pub record IsClashOf (text : Option (List ℕ)) (f : Wished) (clash : Clash) : Type 0 where
  pub says : SaysClash f clash
  pub reads : IfSome text (IsClashText f clash)

-- the bytes keep the limit, and this is their first bad line
abbrev pub IsBadClashAt : Wished → ℕ → ClashWord → List ℕ → Type 0
IsBadClashAt f number word bytes = (length bytes ≤ most_bytes) × (clash_text f bytes ≡ Err (record { number = number; word = word }))

-- the text has a bad line, which has this number and this word, where the text is told
pub record IsBadClash (text : Option (List ℕ)) (f : Wished) (number : ℕ) (word : List ℕ) : Type 0 where
  pub kind : ClashWord
  pub named : word ≡ clash_word_text kind
  pub reads : IfSome text (IsBadClashAt f number kind)

-- ---- the call

-- the text was begun as this input under its name and no read failed: it keeps restrictions of the problem, and this is the part of them, within the limits
pub record ReadsPart (feed : Feed) (f : Wished) (name : List ℕ) (old new : DeskState) (read : Part) : Type 0 where
  pub enters : Enters feed name old new
  pub read_faults : new.read_faults ≡ old.read_faults
  pub is : IsClashOf (old.held name) f read.clash
  pub made : read.flat ≡ part f read.clash.kept
  pub limits : IsFlat read.flat

-- it isn't read to its end, for this cause, or memory ran out for its part
pub record StopsAtRead (feed : Feed) (text : Option (List ℕ)) (old new : DeskState) (r : Report) : Type 0 where
  pub stop : ReadStop
  pub report : r ≡ report_of_stop feed stop
  pub cause : StopsFor text old new stop

-- it is read, and has a bad line
pub record StopsAtLine (feed : Feed) (f : Wished) (text : Option (List ℕ)) (old new : DeskState) (r : Report) : Type 0 where
  pub number : ℕ
  pub word : List ℕ
  pub report : r ≡ bad_text feed number word
  pub bad : IsBadClash text f number word
  pub read_faults : new.read_faults ≡ old.read_faults

-- the text was begun as this input under its name, and there is no part
pub record StopsAtPart (feed : Feed) (f : Wished) (name : List ℕ) (old new : DeskState) (r : Report) : Type 0 where
  pub enters : Enters feed name old new
  pub stop : StopsAtRead feed (old.held name) old new r ⊎ StopsAtLine feed f (old.held name) old new r

-- the report of bytes that are no clash of the problem
abbrev pub report_of_clash_fault : Feed → LineFault ClashWord → Report
report_of_clash_fault feed (faults.Line number word) = bad_text feed number (clash_word_text word)
report_of_clash_fault feed faults.NoMemory = no_memory
