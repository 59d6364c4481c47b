use Rattle.hw_cert_course.proofs.Numbers.{delete_as, tariff_as}
use Rattle.hw_cert_course.proofs.raising.raised.Goals as goal

pub returns-in-Some-clause-fits : goal.returns-in-Some-clause-fits
returns-in-Some-clause-fits c = delete_as c.args.line.now c.in-Delete.ids c.in-Some.ids c.args.by.clauses c.in-Delete.is (rw c.in-Some.is at c.in_ok-ids-in-Delete.ensures.value)

pub returns-in-Some-2-clause-fits : goal.returns-in-Some-2-clause-fits
returns-in-Some-2-clause-fits c = tariff_as c.args.line.now c.in-Tariff.tariff c.args.by.tolls c.in-Some-2.dues c.in-Tariff.is (rw c.in-Some-2.is at c.in_ok-dues-in-Tariff.ensures.value)
