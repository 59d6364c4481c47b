use Rattle.std.proofs.Common.{Ok, Err, refl}
use Rattle.hw_subject.specs.Subjects.{topic_seen}
use Rattle.hw_subject.proofs.Certified.{unread}
use Rattle.hw_command_chart.proofs.Charted.{chart_stops, chart_refuses, chart_draws, listed, planned}
use Rattle.hw_command_chart.proofs.charting.chart.Goals as goal

pub returns-in-Err : goal.returns-in-Err
returns-in-Err g c = chart_stops (topic_seen c.args.subject) c.args.cert.now c.in-Err.ensures.stops c.finish.ensures

pub read_cert-requires : goal.read_cert-requires
read_cert-requires g c = record { unread = unread (topic_seen c.args.subject) c.requires.fresh c.in-Ok.ensures.given; none = refl }

pub returns-in-Err-read_cert : goal.returns-in-Err-read_cert
returns-in-Err-read_cert g c = chart_refuses (topic_seen c.args.subject) (Err c.in-Err-read_cert.stop) tt c.in-Ok.ensures.given (rw c.searched-flat.ensures at c.in-Err-read_cert.ensures) (rw c.check_report.ensures.value at c.finish-in-Err-read_cert.ensures)

pub returns-in_default : goal.returns-in_default
returns-in_default g c = chart_refuses (topic_seen c.args.subject) (Ok c.in-Ok-read_cert.read) c.in_default.not-Shows c.in-Ok.ensures.given (rw c.searched-flat.ensures at c.in-Ok-read_cert.ensures) (rw c.check_report-in_default.ensures.value at c.finish-in_default.ensures)

pub draw-requires-clause-plan : goal.draw-requires-clause-plan
draw-requires-clause-plan g c = planned (topic_seen c.args.subject) c.in-Ok.ensures.given

pub draw-requires-clause-listed : goal.draw-requires-clause-listed
draw-requires-clause-listed g c = listed (topic_seen c.args.subject) c.in-Shows.verdict c.in-Shows.is c.in-Ok.ensures.given (rw c.searched-flat.ensures at c.in-Ok-read_cert.ensures)

pub returns : goal.returns
returns g c = chart_draws (topic_seen c.args.subject) c.in-Shows.verdict c.in-Shows.is c.in-Ok.ensures.given (rw c.searched-flat.ensures at c.in-Ok-read_cert.ensures) c.draw.ensures.ends
