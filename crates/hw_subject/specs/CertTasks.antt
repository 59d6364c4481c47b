-- Commands that read a subject and then a certificate.
use Rattle.std.specs.Prelude.{List, ℕ, [], ◌∷◌, ◌++◌, Option}
use Rattle.hw_desk.specs.State.{DeskState}
use Rattle.hw_desk.specs.declared.desk.Feed.TheVariants.{Certificate}
use Rattle.hw_report.specs.Reports.{Report}
use Rattle.hw_command.specs.Carries.{Task, one_report}
use Rattle.hw_command.specs.Scope.{named_feed}
use Rattle.hw_subject.specs.Subjects.{Subject}

-- a command of one report, that makes Proof under this name, if it makes it
abbrev pub cert_task : Subject → List ℕ → Option (List ℕ) → (DeskState → DeskState → Option Report → Type 0) → Task
cert_task s cert proof Says = record {
  inputs = s.inputs ++ (named_feed Certificate cert ∷ []);
  Gives = s.Gives;
  proof = proof;
  Says = one_report Says;
}
