-- `table` of a port or of the repair of its plan: the plan that a certificate of any version shows, as CSV.
use Rattle.std.specs.Prelude.{◌≡◌, ℕ, List, [], Option, None, Some}
use Rattle.hw_desk.specs.State.{DeskState}
use Rattle.hw_cert_lines.specs.declared.check.Verdict.{Verdict}
use Rattle.hw_cert.specs.declared.version.Version.TheVariants.{Three}
use Rattle.hw_port_csv.specs.Tables.{whole_table_text}
use Rattle.hw_report.specs.Reports.{Report, Naming, by_number, by_name, checked, picture}
use Rattle.hw_command.specs.Carries.{Task}
use Rattle.hw_subject.specs.Subjects.{Subject}
use Rattle.hw_subject.specs.CertTasks.{cert_task}
use Rattle.hw_subject.specs.Checks.{Checks}
use Rattle.hw_subject.specs.Shown.{Shown}

-- the table of the port by whose names ships are reported, with a timetable or none. A flat text, whose ships have neither names nor drafts, has no table
abbrev pub listing_table : Naming → Option (List ℕ) → List ℕ
listing_table by_number table = []
listing_table (by_name p h) table = whole_table_text p h table

-- what is read of the inputs, each where it is told, and the table of the last timetable of the certificate, which shows this verdict
pub record Tabled (s : Subject) (cert : List ℕ) (held : List ℕ → Option (List ℕ)) (shows : Verdict) (listed : List ℕ) : Type 0 where
  pub value : s.Value
  pub reads : s.Reads held value
  pub bound : Option ℕ
  pub table : Option (List ℕ)
  pub shown : Shown s value Three (held cert) shows bound table
  pub is_table : listed ≡ listing_table (s.naming value) table

-- what a report says of the inputs and of the certificate, each as far as it is told: what `verify` says of them, unless something is shown, of which the table is sent
abbrev pub Tables : Subject → List ℕ → (List ℕ → Option (List ℕ)) → Report → Type 0
Tables s cert held (picture shows listed) = Tabled s cert held shows listed
Tables s cert held (checked shows bound ships names) = ⊥
Tables s cert held r = Checks s Three cert held r

abbrev pub TableSays : Subject → List ℕ → DeskState → Option Report → Type 0
TableSays s cert old None = ⊥
TableSays s cert old (Some r) = Tables s cert old.held r

abbrev pub table_task : Subject → List ℕ → Task
table_task s cert = cert_task s cert None (λ old new. TableSays s cert old)
