use Rattle.std.proofs.Common.{Option, Some, Bor, List, ℕ, sym, subst}
use Rattle.hw_report.specs.Reports.{Report}
use Rattle.hw_subject.specs.PlanInputs.{report_of_plan}
use Rattle.hw_subject.specs.Reading.{ReadsSubject, StopsAtSubject}
use Rattle.hw_subject.specs.Subjects.{plan_seen, repaired_by, subject_of_source, subject_of}
use Rattle.hw_subject.proofs.Readings.{plain, planned_read, planless, stops_by}
use Rattle.hw_subject.proofs.subject.read_subject.Goals as goal

pub returns-in-Err-clause-stops : goal.returns-in-Err-clause-stops
returns-in-Err-clause-stops g c = stops_by (subject_of_source c.args.subject.of) (plan_seen c.args.subject.plan) (plain c.args.subject.of) c.in-Err.ensures.stops

pub returns-in-Ok-read_repair-clause-given : goal.returns-in-Ok-read_repair-clause-given
returns-in-Ok-read_repair-clause-given g c =
    let x = g.D.Desk.state c.args.desk.now in
    let z = g.D.Desk.state c.read_repair.new.desk in
    let s = subject_of_source c.args.subject.of in
    let repair = c.in-Ok-read_repair.repair in
    subst (λ (o : Option (Bor (List ℕ))). ReadsSubject (repaired_by s (plan_seen o)) x z (record { flat = c.in-Ok.given.flat; named = c.in-Ok.given.named; repair = Some repair })) (sym c.in-Some.is) (planned_read s c.in-Some.name.now (plain c.args.subject.of) c.in-Ok.ensures.given c.in-Ok-read_repair.ensures)

pub returns-clause-stops : goal.returns-clause-stops
returns-clause-stops g c =
    let x = g.D.Desk.state c.args.desk.now in
    let z = g.D.Desk.state c.read_repair.new.desk in
    let s = subject_of_source c.args.subject.of in
    let stop = c.in-Err-read_repair.stop in
    let by : StopsAtSubject (subject_of c.args.subject) x z (report_of_plan stop) = subst (λ (o : Option (Bor (List ℕ))). StopsAtSubject (repaired_by s (plan_seen o)) x z (report_of_plan stop)) (sym c.in-Some.is) (planless s c.in-Some.name.now stop (plain c.args.subject.of) c.in-Ok.ensures.given c.in-Err-read_repair.ensures) in
    subst (λ (r : Report). StopsAtSubject (subject_of c.args.subject) x z r) (sym c.no_plan.ensures.value) by
