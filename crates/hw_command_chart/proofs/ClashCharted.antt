-- A clash that was read and checked is drawn.
use Rattle.std.proofs.Common.{◌≡◌, ◌∙◌, ◌+◌, ◌<◌, ℕ, List, [], ◌∷◌, Option, None, All, length, append-nil, inl, inr, refl, sym, ap, subst, arith}
use Rattle.std.specs.Prelude.{◌≢◌}
use Rattle.hw_desk.specs.State.{DeskState}
use Rattle.hw_desk.specs.declared.desk.Feed.{Feed}
use Rattle.hw_cert_lines.specs.declared.check.Verdict.TheVariants as verdicts
use Rattle.hw_model.specs.Problem.{Problem}
use Rattle.hw_report.specs.Printing.{AreNamesOf}
use Rattle.hw_report.specs.Reports.{Report, Naming, by_number, by_name, clash_holds, no_memory, picture}
use Rattle.hw_command.specs.Carries.{Carries}
use Rattle.hw_command.specs.Ends.{Ends}
use Rattle.hw_command.specs.Scope.{Named}
use Rattle.hw_command.specs.Works.{Works, of_answer, speaks}
use Rattle.hw_command.specs.declared.outcome.CertOutcome.{CertOutcome}
use Rattle.hw_command.specs.declared.outcome.CertOutcome.TheVariants.{Shows, Wrong, TooLong}
use Rattle.hw_command.specs.declared.status.Status.{Status}
use Rattle.hw_command.proofs.Stops.{stops_carries}
use Rattle.hw_clash.specs.Clashes.{Clash}
use Rattle.hw_port_named.specs.Restrictions.{named_restrictions}
use Rattle.hw_subject.specs.Reading.{naming_of}
use Rattle.hw_subject.specs.Subjects.{Subject, port_subject}
use Rattle.hw_command_clash.specs.CheckClash.{ChecksClash, ClashChecks, ClashGives}
use Rattle.hw_command_clash.specs.Checked.{ReadsChecked, StopsAtClash}
use Rattle.hw_command_clash.specs.Texts.{report_of_part}
use Rattle.hw_command_clash.specs.declared.checking.CheckedClash.{CheckedClash}
use Rattle.hw_command_clash.proofs.Checked.{says}
use Rattle.hw_command_chart.specs.ClashCharts.{ChartsClash, clash_chart_task, clash_drawn}
use Rattle.hw_command_chart.specs.ClashDrawing.{AreLines, HasColumns, clash_chart_report}
use Rattle.hw_command_chart.specs.Drawing.{EndsUnlessMemory}

-- ---- what is drawn

columns_by : (f : Problem) (names : Naming) → AreNamesOf f names → HasColumns names
columns_by f by_number are = tt
columns_by f (by_name p h) are = are.1

-- the tide has a column for each waypoint
pub columns_in : {s : Subject} {name cert : List ℕ} {x z : DeskState} {read : CheckedClash} → ReadsChecked s name cert x z read → HasColumns (naming_of read.given.named)
columns_in {read = read} h = columns_by read.given.flat (naming_of read.given.named) h.printable

-- the kept restrictions have lines
pub lines_in : {instance tides name cert : List ℕ} {x z : DeskState} {read : CheckedClash} → ReadsChecked (port_subject instance tides) name cert x z read → AreLines (naming_of read.given.named) read.clash.kept
lines_in {read = read} h =
    let v = h.checks.value in
    let kept = h.checks.clash.kept in
    let count = length (named_restrictions v.port) in
    let same : count + 0 ≡ count = omega arith in
    let own : All (λ n. n < count) kept = subst (λ (most : ℕ). All (λ n. n < most) kept) same h.checks.met.numbered in
    subst (λ (names : Naming). AreLines names read.clash.kept) (sym h.naming) (subst (λ (clash : Clash). AreLines (by_name v.port v.tide) clash.kept) (sym h.clash) own)

-- ---- the work

-- up to a picture it is that up to the report that the clash holds
drawn_works : {inputs : List Named} {Gives : Feed → Type 0} {x z : DeskState} (drawn : List ℕ) → Works inputs Gives None x z clash_holds → Works inputs Gives None x z (picture verdicts.Infeasible drawn)
drawn_works drawn w = record { done = w.done; rest = w.rest; parts = w.parts; begins = w.begins; give = w.give; upto = w.upto; trays = w.trays; read_cause = w.read_cause; write_faults = w.write_faults }

-- the same where memory ran out after it
out_of_memory : {inputs : List Named} {Gives : Feed → Type 0} {x z : DeskState} {r : Report} → Works inputs Gives None x z r → z.trays ≡ x.trays → z.read_faults ≡ x.read_faults → Works inputs Gives None x z no_memory
out_of_memory w trays reads = record { done = w.done; rest = w.rest; parts = w.parts; begins = w.begins; give = w.give; upto = tt; trays = trays; read_cause = reads; write_faults = w.write_faults }

wants_memory : {inputs : List Named} {Gives : Feed → Type 0} {x z : DeskState} (o : CertOutcome) → Works inputs Gives None x z (report_of_part o) → Works inputs Gives None x z no_memory
wants_memory (Shows verdicts.Infeasible) w = out_of_memory w w.trays w.read_cause
wants_memory (Shows (verdicts.Optimal c)) w = out_of_memory w w.trays w.read_cause
wants_memory (Shows (verdicts.Unfinished best)) w = out_of_memory w w.trays w.read_cause
wants_memory (Wrong number word hint) w = out_of_memory w w.trays w.read_cause
wants_memory TooLong w = out_of_memory w w.trays w.read_cause

-- ---- the exits

-- a report of what was read and checked
ends_so : {s : Subject} {name cert : List ℕ} {x z end : DeskState} {status : Status} (r : Report) → Works (clash_chart_task s name cert).inputs (ClashGives s name x.held) None x z r → ChartsClash s name cert x.held r → Ends (r ∷ []) z end status → Carries (clash_chart_task s name cert) x end status
ends_so {z = z} r works says ends = record { mid = z; reports = r ∷ []; works = works; says = λ own. says; ends = ends }

ends_short : {s : Subject} {name cert : List ℕ} {x z end : DeskState} {status : Status} → Works (clash_chart_task s name cert).inputs (ClashGives s name x.held) None x z no_memory → Ends (no_memory ∷ []) z end status → Carries (clash_chart_task s name cert) x end status
ends_short {z = z} works ends = record { mid = z; reports = no_memory ∷ []; works = works; says = λ own. absurd (cc); ends = ends }

charted : {s : Subject} {name cert : List ℕ} {x z end : DeskState} {status : Status} (o : CertOutcome) (names : Naming) (clash : Clash) → Works (clash_chart_task s name cert).inputs (ClashGives s name x.held) None x z (report_of_part o) → (c : ChecksClash s name cert x.held o) → names ≡ s.naming c.value → clash ≡ c.clash → EndsUnlessMemory (clash_chart_report names clash o) z end status → Carries (clash_chart_task s name cert) x end status
charted o names clash works c named same (inr ends) = ends_short (wants_memory o works) ends
charted {s = s} (Shows verdicts.Infeasible) names clash works c named same (inl ends) = ends_so (picture verdicts.Infeasible (clash_drawn names clash)) (drawn_works (clash_drawn names clash) works) (refl, record { checks = c; is_picture = ap (λ (names : Naming). clash_drawn names clash) named ∙ ap (λ (clash : Clash). clash_drawn (s.naming c.value) clash) same }) ends
charted {s = s} {name = name} {cert = cert} {x = x} (Shows (verdicts.Optimal d)) names clash works c named same (inl ends) = ends_so (report_of_part (Shows (verdicts.Optimal d))) works (says s name cert x.held (Shows (verdicts.Optimal d)) c) ends
charted {s = s} {name = name} {cert = cert} {x = x} (Shows (verdicts.Unfinished best)) names clash works c named same (inl ends) = ends_so (report_of_part (Shows (verdicts.Unfinished best))) works (says s name cert x.held (Shows (verdicts.Unfinished best)) c) ends
charted {s = s} {name = name} {cert = cert} {x = x} (Wrong number word hint) names clash works c named same (inl ends) = ends_so (report_of_part (Wrong number word hint)) works c ends
charted {s = s} {name = name} {cert = cert} {x = x} TooLong names clash works c named same (inl ends) = ends_so (report_of_part TooLong) works c ends

-- it is drawn, or its report is sent, or memory ran out for the marks
pub clash_charted : {s : Subject} {name cert : List ℕ} {x z end : DeskState} {read : CheckedClash} {status : Status} → ReadsChecked s name cert x z read → EndsUnlessMemory (clash_chart_report (naming_of read.given.named) read.clash read.outcome) z end status → Carries (clash_chart_task s name cert) x end status
clash_charted {read = read} h ends = charted read.outcome (naming_of read.given.named) read.clash h.works h.checks h.naming h.clash ends

-- what is refused isn't drawn
refused_says : (s : Subject) (name cert : List ℕ) (held : List ℕ → Option (List ℕ)) (r : Report) → speaks r ≢ of_answer → ClashChecks s name cert held r → ChartsClash s name cert held r
refused_says s name cert held (picture v drawn) early h = absurd (early refl)
refused_says s name cert held clash_holds early h = absurd (early refl)
refused_says s name cert held r early h = h

-- why there is nothing to draw
pub clash_unread : {s : Subject} {name cert : List ℕ} {x z end : DeskState} {r : Report} {status : Status} → StopsAtClash s name cert x z r → Ends (r ∷ []) z end status → Carries (clash_chart_task s name cert) x end status
clash_unread {s = s} {name = name} {cert = cert} {x = x} {r = r} h ends = stops_carries (clash_chart_task s name cert) [] h (sym (append-nil _)) (λ feed given. given) (refused_says s name cert x.held r h.early) ends
