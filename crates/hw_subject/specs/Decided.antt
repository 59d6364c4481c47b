-- The bytes of a subject's inputs and of a certificate decide what is reported.
use Rattle.std.specs.Prelude.{◌≡◌, ◌⊎◌, ℕ, List, [], ◌∷◌, ◌++◌, Option, Some, None, IsSome, ⊤, codes}
use Rattle.hw_cert.specs.declared.version.Version.{Version}
use Rattle.hw_report.specs.Reports.{Report}
use Rattle.hw_command.specs.Scope.{Named}
use Rattle.hw_subject.specs.Checks.{Checks}
use Rattle.hw_subject.specs.Subjects.{Subject, Topic, topic_subject, flat_subject, repair_of}
use Rattle.hw_subject.specs.Texts.{cert_report, texts_report}

-- the bytes of these inputs are told
abbrev pub AllTold : (List ℕ → Option (List ℕ)) → List Named → Type 0
AllTold held [] = ⊤
AllTold held (input ∷ more) = IsSome (held input.name) × AllTold held more

-- what the inputs hold gives one value at most, or one refusal, and never both
pub record IsDecided (s : Subject) (held : List ℕ → Option (List ℕ)) : Type 0 where
  pub one_value : (v w : s.Value) → s.Reads held v → s.Reads held w → v ≡ w
  pub one_refusal : (r t : Report) → s.Refuses held r → s.Refuses held t → r ≡ t
  pub apart : (v : s.Value) (r : Report) → s.Reads held v → s.Refuses held r → ⊥

-- where all inputs are told, whatever the subject
abbrev pub SubjectsDecided : Type 0
SubjectsDecided = (topic : Topic) (held : List ℕ → Option (List ℕ)) → AllTold held (topic_subject topic).inputs → IsDecided (topic_subject topic) held

-- what is read of the inputs, each where it is told, and the report that is made of it
pub record ReportedBy (s : Subject) (held : List ℕ → Option (List ℕ)) (made : s.Value → Report) (r : Report) : Type 0 where
  pub value : s.Value
  pub reads : s.Reads held value
  pub report : r ≡ made value

-- a report that is made so, or that tells why nothing is read
abbrev pub IsReported : (s : Subject) → (List ℕ → Option (List ℕ)) → (s.Value → Report) → Report → Type 0
IsReported s held made r = s.Refuses held r ⊎ ReportedBy s held made r

-- the report that a certificate's bytes make of what is read
abbrev pub certified : (s : Subject) → Version → List ℕ → s.Value → Report
certified s most bytes v = cert_report most (s.naming v) (s.problem v) (s.plan v) bytes

abbrev pub DecidedBy : (s : Subject) → Version → (List ℕ → Option (List ℕ)) → List ℕ → Report → Type 0
DecidedBy s most held bytes r = ReportedBy s held (certified s most bytes) r

-- where the certificate is told, a report tells why there is no value, or is decided by the value and by the certificate's bytes
abbrev pub CertificatesDecide : Type 0
CertificatesDecide = (topic : Topic) (most : Version) (cert bytes : List ℕ) (held : List ℕ → Option (List ℕ)) (r : Report) → held cert ≡ Some bytes → Checks (topic_subject topic) most cert held r → IsReported (topic_subject topic) held (certified (topic_subject topic) most bytes) r

-- of a flat text, or of the repair of its plan, the report is the one that a function computes from the bytes
pub record TextsDecide : Type 0 where
  pub flat : (name cert text bytes : List ℕ) (most : Version) (held : List ℕ → Option (List ℕ)) (r : Report) → held name ≡ Some text → held cert ≡ Some bytes → Checks (flat_subject name) most cert held r → r ≡ texts_report most text None bytes
  pub repair : (name plan cert text moved bytes : List ℕ) (most : Version) (held : List ℕ → Option (List ℕ)) (r : Report) → held name ≡ Some text → held plan ≡ Some moved → held cert ≡ Some bytes → Checks (repair_of (flat_subject name) plan) most cert held r → r ≡ texts_report most text (Some moved) bytes

-- the first line of the bytes names the third version
abbrev pub NamesThird : List ℕ → Type 0
NamesThird bytes = (more : List ℕ) × (bytes ≡ codes "cert 3\n" ++ more)
