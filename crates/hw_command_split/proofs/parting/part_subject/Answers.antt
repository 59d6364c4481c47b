use Rattle.hw_report.specs.Seen.{report_seen}
use Rattle.hw_command.proofs.CertWorks.{ends_in}
use Rattle.hw_subject.specs.Subjects.{topic_seen}
use Rattle.hw_command_split.proofs.Partings.{broke_carries, part_refused, part_room_fits, sent_carries, split_refused, stopped_carries, subject_stops}
use Rattle.hw_command_split.proofs.SplitInputs.{unread_cert, unread_split}
use Rattle.hw_command_split.proofs.parting.part_subject.Goals as goal

pub returns-in-Err : goal.returns-in-Err
returns-in-Err g c = subject_stops (topic_seen c.args.subject) c.args.words.split.now c.args.words.number c.args.words.start.now c.args.budget c.args.words.proof.now c.in-Err.ensures.stops c.finish.ensures

pub read_split_input-requires : goal.read_split_input-requires
read_split_input-requires g c = record { unread = unread_split (topic_seen c.args.subject) c.requires.fresh c.in-Ok.ensures.given }

pub returns-in-Err-read_split_input : goal.returns-in-Err-read_split_input
returns-in-Err-read_split_input g c = split_refused (topic_seen c.args.subject) c.args.words.split.now c.args.words.number c.args.words.start.now c.args.budget c.args.words.proof.now c.in-Ok.ensures.given (rw c.searched-flat.ensures at c.in-Err-read_split_input.ensures.no_split) c.finish-in-Err-read_split_input.ensures

pub part_room-requires : goal.part_room-requires
part_room-requires g c = record { split = c.in-Ok-read_split_input.ensures.split.is.is }

pub returns-in-Err-part_room : goal.returns-in-Err-part_room
returns-in-Err-part_room g c = part_refused (topic_seen c.args.subject) c.args.words.split.now c.args.words.number c.args.words.start.now c.args.budget c.args.words.proof.now (report_seen c.in-Err-part_room.report) c.in-Ok.ensures.given (rw c.searched-flat.ensures at c.in-Ok-read_split_input.ensures.split) c.in-Err-part_room.ensures.no_room c.finish-in-Err-part_room.ensures

pub part_to-requires-clause-room : goal.part_to-requires-clause-room
part_to-requires-clause-room g c = part_room_fits c.in-Ok-part_room.ensures.room

pub part_to-requires-clause-unread : goal.part_to-requires-clause-unread
part_to-requires-clause-unread g c = unread_cert (topic_seen c.args.subject) c.requires.fresh c.in-Ok.ensures.given (rw c.searched-flat.ensures at c.in-Ok-read_split_input.ensures.split)

pub returns-in-Stopped : goal.returns-in-Stopped
returns-in-Stopped g c = stopped_carries (topic_seen c.args.subject) (g.D.Desk.state c.part_to.new.desk) c.in-Stopped.stopped c.in-Ok.ensures.given (rw c.searched-flat.ensures at c.in-Ok-read_split_input.ensures.split) (rw c.searched-flat.ensures at c.in-Ok-part_room.ensures.room) (rw c.searched-flat.ensures at c.in-Stopped.ensures) (ends_in c.in-Stopped.stopped c.check_report.ensures.value c.names.ensures c.finish-in-Stopped.ensures)

pub returns-in-Sent : goal.returns-in-Sent
returns-in-Sent g c = sent_carries (topic_seen c.args.subject) (g.D.Desk.state c.part_to.new.desk) c.in-Sent.is_closed c.in-Ok.ensures.given (rw c.searched-flat.ensures at c.in-Ok-read_split_input.ensures.split) (rw c.searched-flat.ensures at c.in-Ok-part_room.ensures.room) (rw c.searched-flat.ensures at c.in-Sent.ensures) c.finish-in-Sent.ensures

pub returns : goal.returns
returns g c = broke_carries (topic_seen c.args.subject) (g.D.Desk.state c.part_to.new.desk) c.in-Ok.ensures.given (rw c.searched-flat.ensures at c.in-Ok-read_split_input.ensures.split) (rw c.searched-flat.ensures at c.in-Ok-part_room.ensures.room) (rw c.searched-flat.ensures at c.in-WriteFailed.ensures)
