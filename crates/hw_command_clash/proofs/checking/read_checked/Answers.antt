use Rattle.hw_subject.specs.Subjects.{topic_seen, topic_subject}
use Rattle.hw_command_clash.proofs.Checked.{unread_clash, unread_cert, check_stops, check_clash_stops, check_breaks, check_meets}
use Rattle.hw_command_clash.proofs.Sources.{fits_in, searched_is}
use Rattle.hw_command_clash.proofs.checking.read_checked.Goals as goal

pub returns-in-Err-clause-stops : goal.returns-in-Err-clause-stops
returns-in-Err-clause-stops g c = check_stops (topic_seen c.args.subject) c.args.clash.now c.args.cert.now c.in-Err.ensures.stops

pub wished_of-wished-requires : goal.wished_of-wished-requires
wished_of-wished-requires g c = record { searched = searched_is {s = topic_subject (topic_seen c.args.subject)} c.in-Ok.ensures.given; fits = fits_in (topic_seen c.args.subject) c.in-Ok.ensures.given }

pub read_part-requires : goal.read_part-requires
read_part-requires g c = record { unread = rw c.clash_feed-feed.ensures (unread_clash (topic_seen c.args.subject) c.requires.fresh c.in-Ok.ensures.given) }

pub returns-in-Err-read_part-clause-stops : goal.returns-in-Err-read_part-clause-stops
returns-in-Err-read_part-clause-stops g c = check_clash_stops (topic_seen c.args.subject) c.args.clash.now c.args.cert.now c.in-Ok.ensures.given (rw c.clash_feed-feed.ensures at (rw c.wished_of-wished.ensures at c.in-Err-read_part.ensures.no_part))

pub read_cert-requires : goal.read_cert-requires
read_cert-requires g c = record { unread = unread_cert (topic_seen c.args.subject) c.requires.fresh c.in-Ok.ensures.given (rw c.clash_feed-feed.ensures at (rw c.wished_of-wished.ensures at c.in-Ok-read_part.ensures.part)); none = tt }

pub returns-clause-checked : goal.returns-clause-checked
returns-clause-checked g c = check_meets (topic_seen c.args.subject) c.in-Ok.ensures.given (rw c.clash_feed-feed.ensures at (rw c.wished_of-wished.ensures at c.in-Ok-read_part.ensures.part)) c.in-Ok-read_cert.ensures

pub returns-in-Err-read_cert-clause-stops : goal.returns-in-Err-read_cert-clause-stops
returns-in-Err-read_cert-clause-stops g c = rw c.check_report.ensures.value (check_breaks (topic_seen c.args.subject) c.in-Err-read_cert.stop c.in-Ok.ensures.given (rw c.clash_feed-feed.ensures at (rw c.wished_of-wished.ensures at c.in-Ok-read_part.ensures.part)) c.in-Err-read_cert.ensures)
