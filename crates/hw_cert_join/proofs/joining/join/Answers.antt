use Rattle.hw_cert_join.proofs.JoinLines.{all_taken, joined_closed, joined_open}
use Rattle.hw_cert_join.proofs.joining.join.Goals as goal

pub returns-in-FirstOpen : goal.returns-in-FirstOpen
returns-in-FirstOpen c = joined_open c.in-FirstOpen.number (all_taken c.in_ok-course.ensures.stands c.in_ok-course-2.ensures c.in_ok-course-3.ensures) (rw (c.in-FirstOpen.is, c.deref.ensures.value) at c.in_ok-numbers.ensures) c.joined-in-FirstOpen.ensures

pub returns-in_ok-course-in-Each : goal.returns-in_ok-course-in-Each
returns-in_ok-course-in-Each c = joined_closed (all_taken c.in_ok-course.ensures.stands c.in_ok-course-2.ensures c.in_ok-course-3.ensures) (rw (c.in-Each.is, c.deref.ensures.value) at c.in_ok-numbers.ensures) c.in_ok-course-in-Each.ensures c.joined.ensures
