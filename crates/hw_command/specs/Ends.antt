-- How a run ends with its reports.
use Rattle.std.specs.Prelude.{◌≡◌, ◌<◌, ◌⊎◌, ℕ, List, [], ◌∷◌, Option, Some, None, flat_map, length, take}
use Rattle.hw_desk.specs.State.{DeskState, Rose}
use Rattle.hw_desk.specs.Calls.{Sends}
use Rattle.hw_desk.specs.declared.desk.Tray.TheVariants as tray
use Rattle.hw_report.specs.Reports.{Report}
use Rattle.hw_report.specs.Texts.{report_text}
use Rattle.hw_command.specs.Statuses.{status_of}
use Rattle.hw_command.specs.Works.{last_report}
use Rattle.hw_command.specs.declared.status.Status.{Status}
use Rattle.hw_command.specs.declared.status.Status.TheVariants as status

-- the texts of some reports, one after another
abbrev pub reports_text : List Report → List ℕ
reports_text reports = flat_map report_text reports

-- all the reports were sent, and no write failed. The status is that of the last one
pub record EndsWhole (r : Report) (more : List Report) (old new : DeskState) (s : Status) : Type 0 where
  pub status : s ≡ status_of (last_report r more)
  pub sent : Sends tray.Report (reports_text (r ∷ more)) old new
  pub write_faults : new.write_faults ≡ old.write_faults

-- a write failed, and a proper prefix of the reports was sent
pub record EndsShort (r : Report) (more : List Report) (old new : DeskState) (s : Status) : Type 0 where
  pub status : s ≡ status.WriteFault
  pub cause : Rose old.write_faults new.write_faults
  pub sent : (n : ℕ) × (n < length (reports_text (r ∷ more))) × Sends tray.Report (take n (reports_text (r ∷ more))) old new

-- the reports were sent, and nothing but the reports. Without one there was a write fault on Proof, and nothing more is sent
abbrev pub Ends : List Report → DeskState → DeskState → Status → Type 0
Ends [] old new s = (s ≡ status.WriteFault) × (new ≡ old)
Ends (r ∷ more) old new s = EndsWhole r more old new s ⊎ EndsShort r more old new s

-- one report, or none, as a list
abbrev pub at_most_one : Option Report → List Report
at_most_one None = []
at_most_one (Some r) = r ∷ []

-- the end of a run with one report, or with none after a write fault on Proof
abbrev pub EndsWith : Option Report → DeskState → DeskState → Status → Type 0
EndsWith report old new s = Ends (at_most_one report) old new s
