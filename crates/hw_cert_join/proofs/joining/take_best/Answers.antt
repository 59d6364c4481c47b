use Rattle.hw_cert_join.proofs.Bests.{by_offer, none_offered}
use Rattle.hw_cert_join.proofs.joining.take_best.Goals as goal

pub returns-in-None : goal.returns-in-None
returns-in-None c = none_offered c.args.course c.args.certs.now c.requires.stands (rw c.in-None.is at c.best_of_all.ensures.best)

pub returns-in_ok-copy-in-Some : goal.returns-in_ok-copy-in-Some
returns-in_ok-copy-in-Some c = by_offer c.args.course c.args.certs.now c.in_ok-copy-in-Some.field-0 c.offer.result c.requires.stands (rw c.in_ok-copy-in-Some.ensures.value c.in-Some.ensures.best) c.offer.ensures
