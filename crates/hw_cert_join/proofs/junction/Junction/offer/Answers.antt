use Rattle.hw_cert_course.proofs.Extended.{one_adds}
use Rattle.hw_cert_join.proofs.junction.Junction.offer.Goals as goal

pub returns : goal.returns
returns c = one_adds c.args.self.course c.in_ok-offer_some.field-0 c.args.line c.requires.stands c.in_ok-offer_some.ensures
