-- `chart` of a flat text, a port or the repair of either by a plan: draws the plan that a certificate of any version shows.
use Rattle.std.specs.Prelude.{◌≡◌, ℕ, List, Option, None, Some}
use Rattle.hw_model.specs.Problem.{Problem}
use Rattle.hw_desk.specs.State.{DeskState}
use Rattle.hw_cert_lines.specs.declared.check.Verdict.{Verdict}
use Rattle.hw_cert.specs.declared.version.Version.TheVariants.{Three}
use Rattle.hw_chart.specs.declared.outcome.Outcome.{Outcome}
use Rattle.hw_chart_flat.specs.Pictures.{flat_picture}
use Rattle.hw_chart_port.specs.Pictures.{port_picture}
use Rattle.hw_repair.specs.Wishes.{PlanParts}
use Rattle.hw_report.specs.Reports.{Report, Naming, by_number, by_name, checked, picture}
use Rattle.hw_command.specs.Carries.{Task}
use Rattle.hw_subject.specs.Subjects.{Subject}
use Rattle.hw_subject.specs.CertTasks.{cert_task}
use Rattle.hw_subject.specs.Checks.{Checks}
use Rattle.hw_subject.specs.Shown.{Shown}
use Rattle.hw_command_chart.specs.Repairs.{flat_repair, port_repair}

-- the picture of a problem, or of the port by whose names it is reported, with a timetable or none; of its repair where there is a plan
abbrev pub picture_of : Naming → Problem → Option PlanParts → Option (List ℕ) → Outcome → List ℕ
picture_of by_number f None table o = flat_picture f table o
picture_of by_number f (Some plan) table o = flat_repair f plan table o
picture_of (by_name p h) f None table o = port_picture p h table o
picture_of (by_name p h) f (Some plan) table o = port_repair p h plan table o

-- what is read of the inputs, each where it is told, and what is drawn of it: the verdict, the last bound and the last timetable of the certificate
pub record Draws (s : Subject) (cert : List ℕ) (held : List ℕ → Option (List ℕ)) (shows : Verdict) (drawn : List ℕ) : Type 0 where
  pub value : s.Value
  pub reads : s.Reads held value
  pub bound : Option ℕ
  pub table : Option (List ℕ)
  pub shown : Shown s value Three (held cert) shows bound table
  pub is_picture : drawn ≡ picture_of (s.naming value) (s.problem value) (s.plan value) table (record { verdict = shows; bound = bound })

-- what a report says of the inputs and of the certificate, each as far as it is told: what `verify` says of them, unless something is shown, which is drawn
abbrev pub Charts : Subject → List ℕ → (List ℕ → Option (List ℕ)) → Report → Type 0
Charts s cert held (picture shows drawn) = Draws s cert held shows drawn
Charts s cert held (checked shows bound ships names) = ⊥
Charts s cert held r = Checks s Three cert held r

abbrev pub ChartSays : Subject → List ℕ → DeskState → Option Report → Type 0
ChartSays s cert old None = ⊥
ChartSays s cert old (Some r) = Charts s cert old.held r

abbrev pub chart_task : Subject → List ℕ → Task
chart_task s cert = cert_task s cert None (λ old new. ChartSays s cert old)
