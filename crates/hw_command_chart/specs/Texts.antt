-- The picture of a certificate, or why nothing is drawn, by the bytes alone.
use Rattle.std.specs.Prelude.{ℕ, List, Option, None, Result, Ok, Err, length, nat_lt, if◌then◌else◌}
use Rattle.hw_model.specs.Problem.{Problem}
use Rattle.hw_desk.specs.declared.desk.Feed.TheVariants.{Flat, Certificate}
use Rattle.hw_flat.specs.Text.{Fault, flat_text}
use Rattle.hw_cert.specs.declared.version.Version.TheVariants.{Three}
use Rattle.hw_report.specs.Reports.{Report, Naming, by_number, bad_flat, picture, refused, too_long}
use Rattle.hw_command.specs.Certificates.{cert_outcome_to}
use Rattle.hw_command.specs.Values.{most_bytes}
use Rattle.hw_repair.specs.Wishes.{PlanParts}
use Rattle.hw_subject.specs.Meanings.{repaired_problem}
use Rattle.hw_command.specs.declared.outcome.CertOutcome.{CertOutcome}
use Rattle.hw_command.specs.declared.outcome.CertOutcome.TheVariants.{Shows, Wrong, TooLong}
use Rattle.hw_subject.specs.Texts.{cert_bound, cert_table}
use Rattle.hw_command_chart.specs.Charts.{picture_of}

-- the picture, in these names, if a certificate of these bytes of the judged problem, the second one, shows something, otherwise why it shows nothing
abbrev pub outcome_chart : Naming → Problem → Option PlanParts → Problem → List ℕ → CertOutcome → Report
outcome_chart names f plan g bytes (Shows v) = picture v (picture_of names f plan (cert_table g bytes) (record { verdict = v; bound = cert_bound Three g bytes }))
outcome_chart names f plan g bytes (Wrong number word hint) = refused number word hint
outcome_chart names f plan g bytes TooLong = too_long Certificate

abbrev pub judged_chart : Naming → Problem → Option PlanParts → Problem → List ℕ → Report
judged_chart names f plan g bytes = outcome_chart names f plan g bytes (cert_outcome_to Three g bytes)

-- a certificate of a problem, or of the problem's repair by a plan
abbrev pub cert_chart : Naming → Problem → Option PlanParts → List ℕ → Report
cert_chart names f plan bytes = judged_chart names f plan (repaired_problem f plan) bytes

-- a certificate of what a flat text reads as
abbrev pub read_chart : Result Problem Fault → List ℕ → Report
read_chart (Err bad) bytes = bad_flat bad.number bad.word
read_chart (Ok f) bytes = cert_chart by_number f None bytes

-- a flat text and a certificate, each by its bytes
abbrev pub texts_chart : List ℕ → List ℕ → Report
texts_chart text bytes = if nat_lt most_bytes (length text) then too_long Flat else read_chart (flat_text text) bytes
