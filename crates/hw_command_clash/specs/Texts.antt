-- The report of a clash text and its certificate by the bytes alone.
use Rattle.std.specs.Prelude.{ℕ, List, Option, Some, None, Result, Ok, Err, length, nat_lt, if◌then◌else◌}
use Rattle.hw_model.specs.Problem.{Problem}
use Rattle.hw_desk.specs.declared.desk.Feed.{Feed}
use Rattle.hw_desk.specs.declared.desk.Feed.TheVariants as feeds
use Rattle.hw_plan_texts.specs.Reading.{MalformedLine as LineBad}
use Rattle.hw_flat.specs.Text.{Fault, flat_text}
use Rattle.hw_repair.specs.Text.{plan_text}
use Rattle.hw_repair.specs.Wishes.{PlanParts}
use Rattle.hw_repair.specs.Words.{plan_word_text as plan_word}
use Rattle.hw_repair.specs.declared.fault.PlanWord.{PlanWord}
use Rattle.hw_clash.specs.declared.fault.ClashWord.{ClashWord}
use Rattle.hw_clash.specs.Clashes.{Clash}
use Rattle.hw_clash.specs.Parts.{part}
use Rattle.hw_clash.specs.Text.{clash_text}
use Rattle.hw_clash.specs.Wished.{Wished}
use Rattle.hw_clash.specs.Words.{clash_word_text}
use Rattle.hw_cert_lines.specs.declared.check.Verdict.TheVariants as verdicts
use Rattle.hw_report.specs.Reports.{Report, by_number, bad_flat, bad_text, too_long, clash_holds}
use Rattle.hw_command.specs.Certificates.{cert_outcome, report_of}
use Rattle.hw_command.specs.Values.{most_bytes}
use Rattle.hw_command.specs.declared.outcome.CertOutcome.{CertOutcome}
use Rattle.hw_command.specs.declared.outcome.CertOutcome.TheVariants.{Shows}
use Rattle.hw_command_clash.specs.Asked.{asked_by}
use Rattle.hw_command_clash.specs.Inputs.{feed_by}

-- the report of the outcome of a certificate of the kept restrictions: that the clash holds, if they can't be met together, and otherwise that of any check
abbrev pub report_of_part : CertOutcome → Report
report_of_part (Shows verdicts.Infeasible) = clash_holds
report_of_part outcome = report_of by_number None None outcome

-- a certificate of what a clash text of a problem with wishes reads as, which comes as this input
abbrev pub clash_report : Feed → Wished → Result Clash (LineBad ClashWord) → List ℕ → Report
clash_report feed f (Err bad) bytes = bad_text feed bad.number (clash_word_text bad.word)
clash_report feed f (Ok clash) bytes = report_of_part (cert_outcome (part f clash.kept) bytes)

-- a clash text of a problem with wishes, and a certificate
abbrev pub clash_text_report : Feed → Wished → List ℕ → List ℕ → Report
clash_text_report feed f clash bytes = if nat_lt most_bytes (length clash) then too_long feed else clash_report feed f (clash_text f clash) bytes

-- the same of a problem, or of its repair by a plan
abbrev pub asked_report : Problem → Option PlanParts → List ℕ → List ℕ → Report
asked_report f plan clash bytes = clash_text_report (feed_by plan) (asked_by f plan) clash bytes

-- the same of what a plan of the problem reads as
abbrev pub planned_clash_report : Problem → Result PlanParts (LineBad PlanWord) → List ℕ → List ℕ → Report
planned_clash_report f (Err bad) clash bytes = bad_text feeds.Plan bad.number (plan_word bad.word)
planned_clash_report f (Ok plan) clash bytes = asked_report f (Some plan) clash bytes

-- the same of the problem, or of its plan by the plan's bytes
abbrev pub plan_clash_report : Problem → Option (List ℕ) → List ℕ → List ℕ → Report
plan_clash_report f None clash bytes = asked_report f None clash bytes
plan_clash_report f (Some plan) clash bytes = if nat_lt most_bytes (length plan) then too_long feeds.Plan else planned_clash_report f (plan_text f plan) clash bytes

-- the same of what a flat text reads as
abbrev pub read_clash_report : Result Problem Fault → Option (List ℕ) → List ℕ → List ℕ → Report
read_clash_report (Err bad) plan clash bytes = bad_flat bad.number bad.word
read_clash_report (Ok f) plan clash bytes = plan_clash_report f plan clash bytes

-- a flat text, its plan, if there is one, a clash text and a certificate, each by its bytes
abbrev pub texts_clash_report : List ℕ → Option (List ℕ) → List ℕ → List ℕ → Report
texts_clash_report text plan clash bytes = if nat_lt most_bytes (length text) then too_long feeds.Flat else read_clash_report (flat_text text) plan clash bytes
