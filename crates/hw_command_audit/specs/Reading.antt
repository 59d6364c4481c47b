-- Reading the text of a plan or of events.
use Rattle.std.specs.Prelude.{◌≡◌, ◌≤◌, ℕ, List, Option, Result, Ok, Err, IfSome, length}
use Rattle.hw_desk.specs.State.{DeskState}
use Rattle.hw_desk.specs.declared.desk.Feed.{Feed}
use Rattle.hw_desk.specs.declared.whole.ReadStop.TheVariants as stops
use Rattle.hw_plan_texts.specs.Reading.{MalformedLine, malformed_line}
use Rattle.hw_audit.specs.declared.fault.AuditWord.{AuditWord}
use Rattle.hw_audit.specs.Words.{audit_word_text}
use Rattle.hw_plan_texts.specs.declared.fault.LineFault.{LineFault}
use Rattle.hw_plan_texts.specs.declared.fault.LineFault.TheVariants as faults
use Rattle.hw_report.specs.Reports.{Report, bad_text}
use Rattle.hw_command.specs.Inputs.{Enters, StopsFor, report_of_stop}
use Rattle.hw_command.specs.Values.{most_bytes}
use Rattle.hw_command_audit.specs.declared.reading.TextStop.{TextStop}
use Rattle.hw_command_audit.specs.declared.reading.TextStop.TheVariants as texts

-- the bytes keep the limit, and as a text they are read as this
abbrev pub ReadsAs : {A : Type 0} → (List ℕ → Result A (MalformedLine AuditWord)) → Result A (MalformedLine AuditWord) → List ℕ → Type 0
ReadsAs read what bytes = (length bytes ≤ most_bytes) × (read bytes ≡ what)

-- why bytes hold nothing
abbrev pub stop_of_text : LineFault AuditWord → TextStop
stop_of_text (faults.Line number word) = texts.Line number word
stop_of_text faults.NoMemory = texts.Input stops.NoMemory

-- what the bytes held under the name are read as, where they are told; or why nothing was read
abbrev pub TextAnswer : {A : Type 0} → (List ℕ → Result A (MalformedLine AuditWord)) → Option (List ℕ) → DeskState → DeskState → Result A TextStop → Type 0
TextAnswer read told old new (Ok x) = IfSome told (ReadsAs read (Ok x)) × (new.read_faults ≡ old.read_faults)
TextAnswer read told old new (Err (texts.Line number word)) = IfSome told (ReadsAs read (malformed_line number word)) × (new.read_faults ≡ old.read_faults)
TextAnswer read told old new (Err (texts.Input stop)) = StopsFor told old new stop

-- a text is begun under its name, read to its end and parsed
pub record ReadsText {A : Type 0} (feed : Feed) (read : List ℕ → Result A (MalformedLine AuditWord)) (name : List ℕ) (old new : DeskState) (result : Result A TextStop) : Type 0 where
  pub enters : Enters feed name old new
  pub answer : TextAnswer read (old.held name) old new result

-- the report of a text that gives nothing
abbrev pub report_of_text : Feed → TextStop → Report
report_of_text feed (texts.Input stop) = report_of_stop feed stop
report_of_text feed (texts.Line number word) = bad_text feed number (audit_word_text word)
