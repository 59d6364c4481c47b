-- The laws of a run, and of a certificate that is checked.
use Rattle.std.specs.Prelude.{◌≡◌, ◌⊎◌, List, ℕ, true, Ok, All}
use Rattle.hw_model.specs.Limits.{IsFlat}
use Rattle.hw_model.specs.Problem.{Problem, shape_of}
use Rattle.hw_desk.specs.State.{DeskState}
use Rattle.hw_cert_lines.specs.declared.line.Line.{Line}
use Rattle.hw_cert_lines.specs.declared.check.Verdict.{Verdict}
use Rattle.hw_cert_lines.specs.Tolled.{is_plain}
use Rattle.hw_cert_lines.specs.Valid.{LineFits, Valid, verdict}
use Rattle.hw_cert.specs.declared.version.Version.{Version}
use Rattle.hw_cert.specs.declared.version.Version.TheVariants.{Two}
use Rattle.hw_cert.specs.Certs.{cert_read}
use Rattle.hw_cert.specs.Stream.{overlong, cert_stream}
use Rattle.hw_cert.specs.Texts.{cert_text}
use Rattle.hw_command.specs.Causes.{FaultsCaused}
use Rattle.hw_command.specs.Certificates.{cert_outcome}
use Rattle.hw_command.specs.declared.outcome.CertOutcome.TheVariants.{Shows}
use Rattle.hw_command.specs.declared.status.Status.{Status}
use Rattle.hw_command_check.specs.Renewing.{renewed_text}
use Rattle.hw_app.specs.Run.{RunMeets}

-- a fault comes only where the count of its kind rose, whatever the words
abbrev pub FaultCauses : Type 0
FaultCauses = (words : List (List ℕ)) (old new : DeskState) (s : Status) → RunMeets words old new s → FaultsCaused old new s

-- a certificate passes no limit and reads as lines, and these are valid and prove this
pub record IsShownByCertificate (f : Problem) (bytes : List ℕ) (v : Verdict) : Type 0 where
  pub version : Version
  pub lines : List Line
  pub within : (cert_stream (shape_of f) bytes).stop ≡ overlong → ⊥
  pub read : cert_read (shape_of f) bytes ≡ Ok (record { version = version; lines = lines })
  pub valid : Valid f lines
  pub proves : v ≡ verdict f lines

-- a check says yes exactly there
pub record ShowsExactly (f : Problem) (bytes : List ℕ) (v : Verdict) : Type 0 where
  pub shown : cert_outcome f bytes ≡ Shows v → IsShownByCertificate f bytes v
  pub shows : IsShownByCertificate f bytes v → cert_outcome f bytes ≡ Shows v

-- whatever the problem, the bytes and the verdict
abbrev pub ShowsValid : Type 0
ShowsValid = (f : Problem) (bytes : List ℕ) (v : Verdict) → ShowsExactly f bytes v

-- the text of valid lines that say nothing of tolls or prices, as a search writes it, is a certificate that shows the lines' verdict, unless it passes a limit
abbrev pub OwnCertificate : Type 0
OwnCertificate = (f : Problem) (all : List Line) → IsFlat f → All (λ line. is_plain line ≡ true) all → All (LineFits f) all → Valid f all → ((cert_stream (shape_of f) (cert_text Two all)).stop ≡ overlong) ⊎ (cert_outcome f (cert_text Two all) ≡ Shows (verdict f all))

-- the text of such lines renewed is a certificate that shows the lines' verdict, unless it passes a limit
abbrev pub RenewedCertificate : Type 0
RenewedCertificate = (f : Problem) (all : List Line) → IsFlat f → All (λ line. is_plain line ≡ true) all → All (LineFits f) all → Valid f all → ((cert_stream (shape_of f) (renewed_text all)).stop ≡ overlong) ⊎ (cert_outcome f (renewed_text all) ≡ Shows (verdict f all))
