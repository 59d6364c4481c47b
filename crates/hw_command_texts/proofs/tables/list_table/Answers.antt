use Rattle.std.proofs.Common.{Ok, Err, refl}
use Rattle.hw_subject.specs.Subjects.{topic_seen}
use Rattle.hw_subject.proofs.Certified.{unread}
use Rattle.hw_command_texts.proofs.Tabled.{has_table, table_refuses, table_sent, table_stops}
use Rattle.hw_command_texts.proofs.tables.list_table.Goals as goal

pub returns-in-Err : goal.returns-in-Err
returns-in-Err g c = table_stops (topic_seen c.args.subject) c.args.cert.now c.in-Err.ensures.stops c.finish.ensures

pub read_cert-requires : goal.read_cert-requires
read_cert-requires g c = record { unread = unread (topic_seen c.args.subject) c.requires.fresh c.in-Ok.ensures.given; none = refl }

pub returns-in-Err-read_cert : goal.returns-in-Err-read_cert
returns-in-Err-read_cert g c = table_refuses (topic_seen c.args.subject) (Err c.in-Err-read_cert.stop) tt c.in-Ok.ensures.given (rw c.searched.ensures at c.in-Err-read_cert.ensures) (rw c.check_report.ensures.value at c.finish-in-Err-read_cert.ensures)

pub returns-in_default : goal.returns-in_default
returns-in_default g c = table_refuses (topic_seen c.args.subject) (Ok c.in-Ok-read_cert.read) c.in_default.not-Shows c.in-Ok.ensures.given (rw c.searched.ensures at c.in-Ok-read_cert.ensures) (rw c.check_report-in_default.ensures.value at c.finish-in_default.ensures)

pub send_table-requires : goal.send_table-requires
send_table-requires g c = has_table _ _ c.in-Ok.ensures.given.printable

pub returns : goal.returns
returns g c = table_sent (topic_seen c.args.subject) c.in-Shows.verdict c.in-Shows.is c.in-Ok.ensures.given (rw c.searched.ensures at c.in-Ok-read_cert.ensures) (rw c.as_ref.ensures.value at c.send_table.ensures)
