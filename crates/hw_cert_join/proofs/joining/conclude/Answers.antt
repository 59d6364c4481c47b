use Rattle.hw_cert_course.proofs.Extended.{extends_self}
use Rattle.hw_cert_join.proofs.JoinLines.{by_hand_all, closed_now, ended_before, ends_on}
use Rattle.hw_cert_join.proofs.joining.conclude.Goals as goal

pub returns-then-not-is_open : goal.returns-then-not-is_open
returns-then-not-is_open c = ended_before (extends_self c.requires.stands) (closed_now c.is_open.ensures c.if-not-is_open.true)

pub returns : goal.returns
returns c = ends_on c.args.course c.in_ok-course.course c.end.result (by_hand_all c.in_ok-course.ensures) c.end.ensures
