use Rattle.std.specs.Prelude.{option_and_then}
use Rattle.hw_cert_lines.specs.Lines.{clause_of}
use Rattle.hw_cert_join.proofs.Covered.{adds_as, kept_clause, kept_fit}
use Rattle.hw_cert_join.proofs.junction.Junction.take_raised.Goals as goal

pub offer-requires-clause-fits : goal.offer-requires-clause-fits
offer-requires-clause-fits c = kept_fit c.args.self.course.flat.now c.args.line.now c.in_ok-found.found c.in_ok-found.ensures.fits c.requires.fits

pub returns : goal.returns
returns c = adds_as c.args.self (option_and_then clause_of c.in_ok-found.found) (clause_of c.args.line.now) c.offer.result (kept_clause c.args.line.now c.in_ok-found.found c.in_ok-found.ensures.clause) c.offer.ensures
