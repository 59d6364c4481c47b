-- The law of certificates that are renewed.
use Rattle.std.specs.Prelude.{ℕ, List}
use Rattle.hw_desk.specs.State.{DeskState}
use Rattle.hw_cert.specs.declared.version.Version.TheVariants.{Three}
use Rattle.hw_report.specs.Reports.{Report}
use Rattle.hw_subject.specs.Checks.{Checks}
use Rattle.hw_subject.specs.Subjects.{Topic, topic_subject}
use Rattle.hw_command_check.specs.Renews.{Renews}

-- a report of `renew` is one of `verify`
abbrev pub RenewedAsChecked : Type 0
RenewedAsChecked = (topic : Topic) (cert proof : List ℕ) (old new : DeskState) (r : Report) → Renews (topic_subject topic) cert proof old new r → Checks (topic_subject topic) Three cert old.held r
