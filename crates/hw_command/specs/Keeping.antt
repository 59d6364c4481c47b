-- A certificate whose lines are kept while it is checked: they are those that its bytes read as.
use Rattle.std.specs.Prelude.{◌≡◌, ℕ, List, ◌∷◌, [], ◌++◌, Option, Ok, IfSome, IsSomeAnd, All, ⊤}
use Rattle.hw_model.specs.Problem.{Problem, shape_of}
use Rattle.hw_text.specs.Parts.{parts_of}
use Rattle.hw_desk.specs.State.{DeskState}
use Rattle.hw_cert_lines.specs.declared.line.Line.{Line}
use Rattle.hw_cert_lines.specs.Valid.{LineFits, Valid}
use Rattle.hw_cert.specs.Nexts.{rest_of}
use Rattle.hw_cert.specs.Reader.{ReaderModel}
use Rattle.hw_cert.specs.Stream.{Position, CertLines, complete, stream_of}
use Rattle.hw_check.specs.States.{CheckState}
use Rattle.hw_command.specs.Checking.{Comes}
use Rattle.hw_command.specs.declared.cert.CertStep.{CertStep}
use Rattle.hw_command.specs.declared.cert.CertStep.TheVariants.{Further, Ended}
use Rattle.hw_command.specs.declared.outcome.CertOutcome.{CertOutcome}
use Rattle.hw_command.specs.declared.outcome.CertOutcome.TheVariants.{Shows, Wrong, TooLong}

-- all lines of a certificate that ends after them
abbrev pub complete_lines : List Line → CertLines
complete_lines all = record { lines = all; stop = complete }

-- lines, and after them those that are left
abbrev pub before_lines : List Line → CertLines → CertLines
before_lines before left = record { lines = before ++ left.lines; stop = left.stop }

-- what a certificate reads as, where these lines were taken, the reading stands there and these are the bytes left
abbrev pub rest_read : Problem → List Line → Position → List ℕ → CertLines
rest_read f before at rest = before_lines before (stream_of (shape_of f) at (parts_of 10 rest))

-- the line that was taken is the next one that is read; and where something is shown, nothing is left
abbrev pub StepReads : Problem → List Line → ReaderModel → DeskState → DeskState → CertStep → Type 0
StepReads f before r old new (Further reader checker line) = IfSome (rest_of r old) (λ rest. IsSomeAnd (rest_of reader new) (λ more. rest_read f before r.at rest ≡ rest_read f (before ++ line ∷ []) reader.at more))
StepReads f before r old new (Ended (Ok (Shows v)) left) = IfSome (rest_of r old) (λ rest. rest_read f before r.at rest ≡ complete_lines before)
StepReads f before r old new (Ended found left) = ⊤

-- the same of a checker, whatever the lines before
abbrev pub ReadsOn : ReaderModel → CheckState → DeskState → DeskState → CertStep → Type 0
ReadsOn r c old new step = (before : List Line) → StepReads c.problem before r old new step

-- where something is shown, these are all lines of the bytes told
abbrev pub ReadsAll : Option (List ℕ) → (List ℕ → CertLines) → List Line → CertOutcome → Type 0
ReadsAll told read all (Shows v) = IfSome told (λ bytes. read bytes ≡ complete_lines all)
ReadsAll told read all (Wrong number word hint) = ⊤
ReadsAll told read all TooLong = ⊤

-- an outcome, and the lines that were kept: valid ones after which it comes, all that the bytes read as where it shows something
pub record Keeps (f : Problem) (told : Option (List ℕ)) (outcome : List ℕ → CertOutcome) (read : List ℕ → CertLines) (all : List Line) (o : CertOutcome) : Type 0 where
  pub fit : All (LineFits f) all
  pub valid : Valid f all
  pub comes : Comes f all told outcome o
  pub reads : ReadsAll told read all o
