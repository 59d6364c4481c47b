-- A certificate that is checked with its lines kept, and sent to Proof renewed: without its deletions, and each clause deleted right after the last line that names it.
use Rattle.std.specs.Prelude.{◌≡◌, ℕ, List, Option, All, if◌then◌else◌}
use Rattle.std.specs.List.{list_all}
use Rattle.hw_model.specs.Problem.{Problem}
use Rattle.hw_cert_lines.specs.declared.check.Verdict.{Verdict}
use Rattle.hw_cert_lines.specs.declared.line.Line.{Line}
use Rattle.hw_cert_lines.specs.Tolled.{bound_of, is_plain}
use Rattle.hw_cert_lines.specs.Valid.{verdict, LineFits, Valid}
use Rattle.hw_cert_laws.specs.Renewing.{renewed}
use Rattle.hw_cert.specs.declared.version.Version.{Version}
use Rattle.hw_cert.specs.declared.version.Version.TheVariants.{Two, Three}
use Rattle.hw_cert.specs.Texts.{cert_text}

-- lines of the problem that are valid and have this verdict and this last bound
pub record StillShows (f : Problem) (v : Verdict) (bound : Option ℕ) (all : List Line) : Type 0 where
  pub fit : All (LineFits f) all
  pub valid : Valid f all
  pub verdict : v ≡ verdict f all
  pub last_bound : bound ≡ bound_of all

-- the version in which lines are written again: the second one, unless some speak of tolls or prices
abbrev pub version_for : List Line → Version
version_for all = if list_all is_plain all then Two else Three

-- the text of these lines, renewed
abbrev pub renewed_text : List Line → List ℕ
renewed_text all = cert_text (version_for (renewed all)) (renewed all)
