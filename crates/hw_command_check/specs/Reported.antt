-- The report of a certificate that was read.
use Rattle.std.specs.Prelude.{ℕ, Option, None, Result, Ok, Err}
use Rattle.hw_report.specs.Reports.{Report, Naming}
use Rattle.hw_command.specs.Certificates.{report_of_check}
use Rattle.hw_command.specs.Readings.{outcome_in}
use Rattle.hw_command.specs.declared.cert.ReadCert.{ReadCert}
use Rattle.hw_command.specs.declared.outcome.CertStop.{CertStop}

-- its last bound, if it was read to its end and has one
abbrev pub bound_in : Result (ReadCert (Unit {0})) CertStop → Option ℕ
bound_in (Ok read) = read.bound
bound_in (Err stop) = None

-- in these names; of a plan's repair, for this many ships
abbrev pub report_of_reading : Naming → Option ℕ → Result (ReadCert (Unit {0})) CertStop → Report
report_of_reading names ships read = report_of_check names (bound_in read) ships (outcome_in read)
