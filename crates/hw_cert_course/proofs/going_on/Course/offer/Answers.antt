use Rattle.std.proofs.Common.{inr, refl}
use Rattle.hw_cert_course.proofs.Extended.{by_take}
use Rattle.hw_cert_course.proofs.going_on.Course.offer.Goals as goal

pub returns-then-has_no_need_of : goal.returns-then-has_no_need_of
returns-then-has_no_need_of c = inr (record { no_more = c.has_no_need_of.ensures.0 c.if-has_no_need_of.true; same = refl })

pub returns : goal.returns
returns c = by_take c.args.self c.args.line c.take.result c.take.ensures
