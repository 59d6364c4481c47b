use Rattle.std.proofs.Common.{subst}
use Rattle.hw_model.specs.Problem.{Problem}
use Rattle.hw_command.specs.Readings.{KeepsNone, ReadsCert}
use Rattle.hw_subject.specs.Subjects.{topic_seen}
use Rattle.hw_subject.proofs.Certified.{unread}
use Rattle.hw_command_check.proofs.Checked.{check_stops, check_meets}
use Rattle.hw_command_check.proofs.checking.check_to.Goals as goal

pub returns-in-Err : goal.returns-in-Err
returns-in-Err g c = check_stops (topic_seen c.args.subject) c.args.most c.args.cert.now c.in-Err.ensures.stops c.finish.ensures

pub read_cert-read-requires-clause-unread : goal.read_cert-read-requires-clause-unread
read_cert-read-requires-clause-unread g c = unread (topic_seen c.args.subject) c.requires.fresh c.in-Ok.ensures.given

pub returns : goal.returns
returns g c =
    let y = g.D.Desk.state c.read_subject.new.desk in
    let z = g.D.Desk.state c.read_cert-read.new.desk in
    let read = c.read_cert-read.result in
    check_meets (topic_seen c.args.subject) z read c.in-Ok.ensures.given (subst (λ (f : Problem). ReadsCert c.args.most KeepsNone f c.args.cert.now y z read) c.searched.ensures c.read_cert-read.ensures) (rw c.reading_report.ensures.value at c.finish-2.ensures)
