use Rattle.std.proofs.Common.{Ok, Err, refl}
use Rattle.hw_subject.specs.Subjects.{origin_seen}
use Rattle.hw_subject.proofs.Certified.{unread}
use Rattle.hw_command_texts.proofs.Explained.{topic_of, explain_stops, explain_refuses, explain_tells, listed, planned}
use Rattle.hw_command_texts.proofs.explaining.explain_repair.Goals as goal

pub returns-in-Err : goal.returns-in-Err
returns-in-Err g c = explain_stops (origin_seen c.args.source) c.args.plan.now c.args.cert.now c.in-Err.ensures.stops c.finish.ensures

pub read_cert-requires : goal.read_cert-requires
read_cert-requires g c = record { unread = unread (topic_of (origin_seen c.args.source) c.args.plan.now) c.requires.fresh c.in-Ok.ensures.given; none = refl }

pub returns-in-Err-read_cert : goal.returns-in-Err-read_cert
returns-in-Err-read_cert g c = explain_refuses (origin_seen c.args.source) c.args.plan.now (Err c.in-Err-read_cert.stop) tt c.in-Ok.ensures.given (rw c.searched-flat.ensures at c.in-Err-read_cert.ensures) (rw c.check_report.ensures.value at c.finish-in-Err-read_cert.ensures)

pub returns-in_default : goal.returns-in_default
returns-in_default g c = explain_refuses (origin_seen c.args.source) c.args.plan.now (Ok c.in-Ok-read_cert.read) c.in_default.not-Shows c.in-Ok.ensures.given (rw c.searched-flat.ensures at c.in-Ok-read_cert.ensures) (rw c.check_report-in_default.ensures.value at c.finish-in_default.ensures)

pub tell-requires-clause-plan : goal.tell-requires-clause-plan
tell-requires-clause-plan g c = planned (origin_seen c.args.source) c.args.plan.now c.in-Ok.ensures.given

pub tell-requires-clause-listed : goal.tell-requires-clause-listed
tell-requires-clause-listed g c = listed (origin_seen c.args.source) c.args.plan.now c.in-Shows.verdict c.in-Shows.is c.in-Ok.ensures.given (rw c.searched-flat.ensures at c.in-Ok-read_cert.ensures)

pub returns : goal.returns
returns g c = explain_tells (origin_seen c.args.source) c.args.plan.now c.in-Shows.verdict c.in-Shows.is c.in-Ok.ensures.given (rw c.searched-flat.ensures at c.in-Ok-read_cert.ensures) c.tell.ensures
