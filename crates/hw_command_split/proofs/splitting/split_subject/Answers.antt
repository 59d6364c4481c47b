use Rattle.hw_command.proofs.CertWorks.{ends_in}
use Rattle.hw_subject.specs.Subjects.{topic_seen}
use Rattle.hw_command_split.proofs.Splittings.{broke_carries, sent_carries, stopped_carries, subject_stops}
use Rattle.hw_command_split.proofs.splitting.split_subject.Goals as goal

pub returns-in-Err : goal.returns-in-Err
returns-in-Err g c = subject_stops (topic_seen c.args.subject) c.args.parts c.args.words.start.now c.args.words.split.now c.in-Err.ensures.stops c.finish.ensures

pub returns-in-Stopped : goal.returns-in-Stopped
returns-in-Stopped g c = stopped_carries (topic_seen c.args.subject) (g.D.Desk.state c.split_to.new.desk) c.in-Stopped.stopped c.in-Ok.ensures.given (rw c.searched.ensures at c.in-Stopped.ensures) (ends_in c.in-Stopped.stopped c.check_report.ensures.value c.names.ensures c.finish-in-Stopped.ensures)

pub returns-in-Sent : goal.returns-in-Sent
returns-in-Sent g c = sent_carries (topic_seen c.args.subject) (g.D.Desk.state c.split_to.new.desk) c.in-Sent.sizes c.in-Ok.ensures.given (rw c.searched.ensures at c.in-Sent.ensures) c.finish-in-Sent.ensures

pub returns : goal.returns
returns g c = broke_carries (topic_seen c.args.subject) (g.D.Desk.state c.split_to.new.desk) c.in-Ok.ensures.given (rw c.searched.ensures at c.in-WriteFailed.ensures)
