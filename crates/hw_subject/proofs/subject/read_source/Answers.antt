use Rattle.std.proofs.Common.{None, sym, subst}
use Rattle.hw_subject.specs.Reading.{ReadsSubject}
use Rattle.hw_subject.specs.Subjects.{subject_of_source}
use Rattle.hw_subject.specs.declared.source.Named.TheVariants.{ByNumber, ByName}
use Rattle.hw_subject.specs.declared.source.Source.{Source}
use Rattle.hw_subject.proofs.Readings.{flat_read, port_read}
use Rattle.hw_subject.proofs.subject.read_source.Goals as goal

pub returns-in-Ok-clause-given : goal.returns-in-Ok-clause-given
returns-in-Ok-clause-given g c =
    let x = g.D.Desk.state c.args.desk.now in
    let y = g.D.Desk.state c.read_flat.new.desk in
    subst (λ (a : Source). ReadsSubject (subject_of_source a) x y (record { flat = c.in-Ok.flat; named = ByNumber; repair = None })) (sym c.in-Flat.is) (flat_read c.in-Ok.ensures.flat)

pub returns-in-Ok-read_port_problem-clause-given :
    goal.returns-in-Ok-read_port_problem-clause-given
returns-in-Ok-read_port_problem-clause-given g c =
    let x = g.D.Desk.state c.args.desk.now in
    let y = g.D.Desk.state c.read_port_problem.new.desk in
    let read = c.in-Ok-read_port_problem.problem in
    subst (λ (a : Source). ReadsSubject (subject_of_source a) x y (record { flat = read.flat; named = ByName read.port read.tide; repair = None })) (sym c.in-Port.is) (port_read c.in-Ok-read_port_problem.ensures.problem)
