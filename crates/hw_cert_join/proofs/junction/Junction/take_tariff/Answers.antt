use Rattle.std.proofs.Common.{None}
use Rattle.std.specs.Prelude.{option_and_then}
use Rattle.hw_cert_lines.specs.Lines.{clause_of}
use Rattle.hw_cert_join.proofs.Covered.{adds_as}
use Rattle.hw_cert_join.proofs.Tariffs.{offered_fits, offers_none}
use Rattle.hw_cert_join.proofs.junction.Junction.take_tariff.Goals as goal

pub offer-requires-clause-fits : goal.offer-requires-clause-fits
offer-requires-clause-fits c = offered_fits c.args.self.course.flat.now c.in_ok-found.found c.in_ok-found.ensures.fits

pub returns : goal.returns
returns c = adds_as c.args.self (option_and_then clause_of c.in_ok-found.found) None c.offer.result (offers_none c.in_ok-found.found c.in_ok-found.ensures.fits) c.offer.ensures
