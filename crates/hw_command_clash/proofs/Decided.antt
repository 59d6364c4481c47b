-- The bytes decide what is reported of a clash.
use Rattle.std.proofs.Common.{◌≡◌, ◌≤◌, ◌∙◌, ℕ, cond, List, length, Option, Some, None, Ok, inl, inr, refl, sym, ap, subst}
use Rattle.std.specs.Prelude.{◌≢◌, IfSome}
use Rattle.std.proofs.lemmas.Bool.{le-ltb, lt-ltb}
use Rattle.hw_model.specs.Problem.{Problem}
use Rattle.hw_desk.specs.declared.desk.Feed.{Feed}
use Rattle.hw_desk.specs.declared.desk.Feed.TheVariants as feeds
use Rattle.hw_flat.specs.Text.{flat_text}
use Rattle.hw_cert_lines.specs.declared.check.Verdict.{Verdict}
use Rattle.hw_cert_lines.specs.declared.check.Verdict.TheVariants as verdicts
use Rattle.hw_repair.specs.Text.{plan_text}
use Rattle.hw_repair.specs.Wishes.{PlanParts}
use Rattle.hw_clash.specs.Parts.{part}
use Rattle.hw_clash.specs.Text.{clash_text}
use Rattle.hw_clash.specs.Wished.{Wished}
use Rattle.hw_report.specs.Reports.{Report, by_number, checked, refused, bad_text, too_long, clash_holds}
use Rattle.hw_command.specs.Certificates.{cert_outcome}
use Rattle.hw_command.specs.Inputs.{NoFlat}
use Rattle.hw_command.specs.Values.{most_bytes, IsLong, IsProblemText}
use Rattle.hw_command.specs.declared.outcome.CertOutcome.{CertOutcome}
use Rattle.hw_command.specs.declared.outcome.CertOutcome.TheVariants.{Shows, Wrong, TooLong}
use Rattle.hw_command.proofs.FlatForms.{by_line}
use Rattle.hw_subject.specs.Decided.{IsReported, ReportedBy}
use Rattle.hw_subject.specs.Plans.{IsPlanOf, IsPlanText, IsWrongLine}
use Rattle.hw_subject.specs.Subjects.{Subject, NoPlanned, flat_subject, repair_of, topic_subject, LongText}
use Rattle.hw_subject.proofs.Decided.{one_of, subjects_decided_law, told_bytes}
use Rattle.hw_command_clash.specs.Asked.{asked}
use Rattle.hw_command_clash.specs.CheckClash.{ChecksClash, BadClash, ClashChecks, ClashChecksAs}
use Rattle.hw_command_clash.specs.Inputs.{IsClashOf, IsBadClash, clash_feed}
use Rattle.hw_command_clash.specs.Laws.{OneClashReport, TextsDecideClash}
use Rattle.hw_command_clash.specs.Texts.{report_of_part, asked_report, clash_report, plan_clash_report, planned_clash_report, read_clash_report, clash_text_report, texts_clash_report}

-- ---- the report of a clash text and its certificate

pub text_within : (feed : Feed) (f : Wished) (clash bytes : List ℕ) → length clash ≤ most_bytes → clash_text_report feed f clash bytes ≡ clash_report feed f (clash_text f clash) bytes
text_within feed f clash bytes h = ap (λ b. cond b (too_long feed) (clash_report feed f (clash_text f clash) bytes)) (le-ltb _ _ h)

-- the line of a check that shows anything but that the kept restrictions can't be met together
other_verdict : (v : Verdict) → v ≢ verdicts.Infeasible → checked v None None by_number ≡ report_of_part (Shows v)
other_verdict (verdicts.Optimal c) other = refl
other_verdict (verdicts.Unfinished best) other = refl
other_verdict verdicts.Infeasible other = absurd (other refl)

-- by the value that is read
abbrev by_clash : Feed → (s : Subject) → List ℕ → List ℕ → s.Value → Report
by_clash feed s clash bytes v = clash_text_report feed (asked s v) clash bytes

of_outcome : {s : Subject} {name cert clash bytes : List ℕ} {held : List ℕ → Option (List ℕ)} {r : Report} (feed : Feed) (o : CertOutcome) → held name ≡ Some clash → held cert ≡ Some bytes → r ≡ report_of_part o → ChecksClash s name cert held o → ReportedBy s held (by_clash feed s clash bytes) r
of_outcome {s = s} {clash = clash} {bytes = bytes} feed o given told e says =
    let f = asked s says.value in
    let is = subst (λ (x : Option (List ℕ)). IsClashOf x f says.clash) given says.is in
    let outcome : o ≡ cert_outcome (part f says.clash.kept) bytes = subst (λ (x : Option (List ℕ)). IfSome x (λ bs. o ≡ cert_outcome (part f says.clash.kept) bs)) told says.outcome in
    record { value = says.value; reads = says.reads; report = e ∙ ap report_of_part outcome ∙ sym (text_within feed f clash bytes is.reads.0 ∙ ap (λ read. clash_report feed f read bytes) is.reads.1) }

of_bad : {s : Subject} {name clash : List ℕ} {held : List ℕ → Option (List ℕ)} (feed : Feed) (bytes : List ℕ) (number : ℕ) (word : List ℕ) → held name ≡ Some clash → BadClash s name held number word → ReportedBy s held (by_clash feed s clash bytes) (bad_text feed number word)
of_bad {s = s} {clash = clash} feed bytes number word given says =
    let f = asked s says.value in
    let bad = subst (λ (x : Option (List ℕ)). IsBadClash x f number word) given says.bad in
    record { value = says.value; reads = says.reads; report = ap (bad_text feed number) bad.named ∙ sym (text_within feed f clash bytes bad.reads.0 ∙ ap (λ read. clash_report feed f read bytes) bad.reads.1) }

of_long : {s : Subject} {name clash : List ℕ} {held : List ℕ → Option (List ℕ)} (feed : Feed) (bytes : List ℕ) → held name ≡ Some clash → LongText s name held → ReportedBy s held (by_clash feed s clash bytes) (too_long feed)
of_long {s = s} {clash = clash} feed bytes given says =
    let f = asked s says.value in
    let long = subst (λ (x : Option (List ℕ)). IfSome x IsLong) given says.long in
    record { value = says.value; reads = says.reads; report = sym (ap (λ passes. cond passes (too_long feed) (clash_report feed f (clash_text f clash) bytes)) (lt-ltb _ _ long)) }

decided_as : (feed : Feed) (s : Subject) (name cert clash bytes : List ℕ) (held : List ℕ → Option (List ℕ)) (r : Report) → held name ≡ Some clash → held cert ≡ Some bytes → ClashChecksAs feed s name cert held r → IsReported s held (by_clash feed s clash bytes) r
decided_as feed s name cert clash bytes held clash_holds given told says = inr (of_outcome feed (Shows verdicts.Infeasible) given told refl says)
decided_as feed s name cert clash bytes held (checked v bound ships names) given told says = inr (of_outcome feed (Shows v) given told (says.0 ∙ other_verdict v says.1) says.2)
decided_as feed s name cert clash bytes held (refused number word hint) given told says = inr (of_outcome feed (Wrong number word hint) given told refl says)
decided_as feed s name cert clash bytes held (too_long feeds.Certificate) given told says = inr (of_outcome feed TooLong given told refl says)
decided_as feeds.Plan s name cert clash bytes held (bad_text feeds.Plan number word) given told says = inr (of_bad feeds.Plan bytes number word given says)
decided_as feeds.Plan s name cert clash bytes held (too_long feeds.Plan) given told says = inr (of_long feeds.Plan bytes given says)
decided_as feeds.Clash s name cert clash bytes held (bad_text feeds.Clash number word) given told says = inr (of_bad feeds.Clash bytes number word given says)
decided_as feeds.Clash s name cert clash bytes held (too_long feeds.Clash) given told says = inr (of_long feeds.Clash bytes given says)
decided_as feed s name cert clash bytes held r given told says = inl says

pub decided : (s : Subject) (name cert clash bytes : List ℕ) (held : List ℕ → Option (List ℕ)) (r : Report) → held name ≡ Some clash → held cert ≡ Some bytes → ClashChecks s name cert held r → IsReported s held (λ v. clash_text_report (clash_feed s) (asked s v) clash bytes) r
decided s name cert clash bytes held r given told says = decided_as (clash_feed s) s name cert clash bytes held r given told says

-- ---- by all the bytes

pub one_clash_report_law : OneClashReport
one_clash_report_law topic name cert held r t all given told h g =
    let s = topic_subject topic in
    let clash = told_bytes (held name) given in
    let bytes = told_bytes (held cert) told in
    one_of s held (λ v. clash_text_report (clash_feed s) (asked s v) clash.0 bytes.0) r t (subjects_decided_law topic held all) (decided s name cert clash.0 bytes.0 held r clash.1 bytes.1 h) (decided s name cert clash.0 bytes.0 held t clash.1 bytes.1 g)

-- ---- a flat text

flat_within : (text : List ℕ) (plan : Option (List ℕ)) (clash bytes : List ℕ) → length text ≤ most_bytes → texts_clash_report text plan clash bytes ≡ read_clash_report (flat_text text) plan clash bytes
flat_within text plan clash bytes h = ap (λ b. cond b (too_long feeds.Flat) (read_clash_report (flat_text text) plan clash bytes)) (le-ltb _ _ h)

pub flat_is : (text : List ℕ) (plan : Option (List ℕ)) (clash bytes : List ℕ) (f : Problem) → IsProblemText f text → texts_clash_report text plan clash bytes ≡ plan_clash_report f plan clash bytes
flat_is text plan clash bytes f h = flat_within text plan clash bytes h.0 ∙ ap (λ read. read_clash_report read plan clash bytes) h.1

no_flat : (text : List ℕ) (plan : Option (List ℕ)) (clash bytes : List ℕ) (r : Report) → NoFlat (Some text) r → r ≡ texts_clash_report text plan clash bytes
no_flat text plan clash bytes r h = by_line (Some text) (λ (r : Report). r ≡ texts_clash_report text plan clash bytes) r (λ number word bad. sym (flat_within text plan clash bytes bad.0 ∙ ap (λ read. read_clash_report read plan clash bytes) bad.1)) (λ long. sym (ap (λ passes. cond passes (too_long feeds.Flat) (read_clash_report (flat_text text) plan clash bytes)) (lt-ltb _ _ long))) h

told_flat : (name text : List ℕ) (held : List ℕ → Option (List ℕ)) (f : Problem) → held name ≡ Some text → (flat_subject name).Reads held f → IsProblemText f text
told_flat name text held f told reads = subst (λ (o : Option (List ℕ)). IfSome o (IsProblemText f)) told reads.reads

by_text : (name text clash bytes : List ℕ) (held : List ℕ → Option (List ℕ)) (r : Report) → held name ≡ Some text → IsReported (flat_subject name) held (λ f. asked_report f None clash bytes) r → r ≡ texts_clash_report text None clash bytes
by_text name text clash bytes held r told (inl bad) = no_flat text None clash bytes r (subst (λ (o : Option (List ℕ)). NoFlat o r) told bad)
by_text name text clash bytes held r told (inr by) = by.report ∙ sym (flat_is text None clash bytes by.value (told_flat name text held by.value told by.reads))

-- ---- the repair of its plan

plan_within : (f : Problem) (plan clash bytes : List ℕ) → length plan ≤ most_bytes → plan_clash_report f (Some plan) clash bytes ≡ planned_clash_report f (plan_text f plan) clash bytes
plan_within f plan clash bytes h = ap (λ b. cond b (too_long feeds.Plan) (planned_clash_report f (plan_text f plan) clash bytes)) (le-ltb _ _ h)

-- a plan of these parts
pub plan_is : (f : Problem) (parts : PlanParts) (plan clash bytes : List ℕ) → IsPlanText f (Ok parts) plan → plan_clash_report f (Some plan) clash bytes ≡ asked_report f (Some parts) clash bytes
plan_is f parts plan clash bytes h = plan_within f plan clash bytes h.0 ∙ ap (λ read. planned_clash_report f read clash bytes) h.1

no_plan : (name plan text moved clash bytes : List ℕ) (held : List ℕ → Option (List ℕ)) (r : Report) → held name ≡ Some text → held plan ≡ Some moved → NoPlanned (flat_subject name) plan held r → r ≡ texts_clash_report text (Some moved) clash bytes
no_plan name plan text moved clash bytes held (bad_text feeds.Plan number word) told given h =
    let f = h.value in
    let wrong = subst (λ (o : Option (List ℕ)). IsWrongLine o f number word) given h.wrong in
    ap (bad_text feeds.Plan number) wrong.named ∙ sym (flat_is text (Some moved) clash bytes f (told_flat name text held f told h.reads) ∙ plan_within f moved clash bytes wrong.reads.0 ∙ ap (λ read. planned_clash_report f read clash bytes) wrong.reads.1)
no_plan name plan text moved clash bytes held (too_long feeds.Plan) told given h =
    let f = h.0.value in
    let long = subst (λ (o : Option (List ℕ)). IfSome o IsLong) given h.1 in
    sym (flat_is text (Some moved) clash bytes f (told_flat name text held f told h.0.reads) ∙ ap (λ passes. cond passes (too_long feeds.Plan) (planned_clash_report f (plan_text f moved) clash bytes)) (lt-ltb _ _ long))
no_plan name plan text moved clash bytes held r told given h = no_flat text (Some moved) clash bytes r (subst (λ (o : Option (List ℕ)). NoFlat o r) told h)

by_plan : (name plan text moved clash bytes : List ℕ) (held : List ℕ → Option (List ℕ)) (r : Report) → held name ≡ Some text → held plan ≡ Some moved → IsReported (repair_of (flat_subject name) plan) held (λ v. asked_report v.value (Some v.plan) clash bytes) r → r ≡ texts_clash_report text (Some moved) clash bytes
by_plan name plan text moved clash bytes held r told given (inl bad) = no_plan name plan text moved clash bytes held r told given bad
by_plan name plan text moved clash bytes held r told given (inr by) =
    let f = by.value.value in
    by.report ∙ sym (flat_is text (Some moved) clash bytes f (told_flat name text held f told by.reads.reads) ∙ plan_is f by.value.plan moved clash bytes (subst (λ (o : Option (List ℕ)). IsPlanOf o f by.value.plan) given by.reads.planned).reads)

pub texts_decide_clash_law : TextsDecideClash
texts_decide_clash_law = record {
  plain = λ name clash cert text why bytes held r told given certified says. by_text name text why bytes held r told (decided (flat_subject name) clash cert why bytes held r given certified says);
  repaired = λ name plan clash cert text moved why bytes held r told planned given certified says. by_plan name plan text moved why bytes held r told planned (decided (repair_of (flat_subject name) plan) clash cert why bytes held r given certified says);
}
