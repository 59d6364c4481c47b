use Rattle.hw_cert_course.proofs.Extended.{none_offered, one_offered}
use Rattle.hw_cert_course.proofs.going_on.Course.offer_some.Goals as goal

pub returns-in-None : goal.returns-in-None
returns-in-None c = none_offered c.args.self c.args.line c.in-None.is

pub returns-in-Some : goal.returns-in-Some
returns-in-Some c = one_offered c.args.self c.args.line c.in-Some.line c.offer.result c.in-Some.is c.offer.ensures
