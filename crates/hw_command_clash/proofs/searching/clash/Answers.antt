use Rattle.hw_subject.specs.Subjects.{topic_seen, topic_subject}
use Rattle.hw_subject.proofs.Certified.{unmade}
use Rattle.hw_command_clash.proofs.Found.{clash_stops, clash_meets}
use Rattle.hw_command_clash.proofs.Sources.{fits_in, searched_is}
use Rattle.hw_command_clash.proofs.searching.clash.Goals as goal

pub returns-in-Err : goal.returns-in-Err
returns-in-Err g c = clash_stops (topic_seen c.args.subject) c.args.budget c.args.proof.now c.in-Err.ensures.stops c.finish.ensures

pub wished_of-wished-requires : goal.wished_of-wished-requires
wished_of-wished-requires g c = record { searched = searched_is {s = topic_subject (topic_seen c.args.subject)} c.in-Ok.ensures.given; fits = fits_in (topic_seen c.args.subject) c.in-Ok.ensures.given }

pub send_found-requires : goal.send_found-requires
send_found-requires g c = record { unmade = unmade (topic_seen c.args.subject) c.requires.fresh c.in-Ok.ensures.given }

pub returns : goal.returns
returns g c = clash_meets (topic_seen c.args.subject) c.clash-clashed.result c.in-Ok.ensures.given (rw c.wished_of-wished.ensures at c.clash-clashed.ensures) c.send_found.ensures
