use Rattle.std.proofs.Common.{[], ◌∷◌, subst}
use Rattle.hw_report.specs.Reports.{Report}
use Rattle.hw_command.specs.Ends.{Ends}
use Rattle.hw_command.proofs.CertWorks.{ends_in}
use Rattle.hw_subject.specs.Subjects.{topic_seen}
use Rattle.hw_subject.proofs.Certified.{unmade, unread}
use Rattle.hw_command_check.proofs.Renewed.{broke_carries, renew_stops, sent_carries, stopped_carries}
use Rattle.hw_command_check.proofs.renewing.renew.Goals as goal

pub returns-in-Err : goal.returns-in-Err
returns-in-Err g c = renew_stops (topic_seen c.args.subject) c.args.cert.now c.args.proof.now c.in-Err.ensures.stops c.finish.ensures

pub renew_to-requires-clause-unread : goal.renew_to-requires-clause-unread
renew_to-requires-clause-unread g c = unread (topic_seen c.args.subject) c.requires.fresh c.in-Ok.ensures.given

pub renew_to-requires-clause-unmade : goal.renew_to-requires-clause-unmade
renew_to-requires-clause-unmade g c = unmade (topic_seen c.args.subject) c.requires.fresh c.in-Ok.ensures.given

pub returns-in-Stopped : goal.returns-in-Stopped
returns-in-Stopped g c = stopped_carries (topic_seen c.args.subject) (g.D.Desk.state c.renew_to.new.desk) c.in-Stopped.stopped c.in-Ok.ensures.given (rw c.searched.ensures at c.in-Stopped.ensures) (ends_in c.in-Stopped.stopped c.check_report.ensures.value c.names.ensures c.finish-in-Stopped.ensures)

pub returns-in-Sent : goal.returns-in-Sent
returns-in-Sent g c =
    let z = g.D.Desk.state c.renew_to.new.desk in
    let end = g.D.Desk.state c.finish-in-Sent.new.desk in
    sent_carries (topic_seen c.args.subject) z c.in-Sent.shown c.in-Ok.ensures.given (rw c.searched.ensures at c.in-Sent.ensures) (subst (λ (r : Report). Ends (r ∷ []) z end c.finish-in-Sent.result) c.shown_report.ensures.value c.finish-in-Sent.ensures)

pub returns : goal.returns
returns g c = broke_carries (topic_seen c.args.subject) (g.D.Desk.state c.renew_to.new.desk) c.in-Ok.ensures.given (rw c.searched.ensures at c.in-WriteFailed.ensures)
