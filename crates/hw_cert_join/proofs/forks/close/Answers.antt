use Rattle.hw_cert_join.proofs.Climbing.{lemmas_fit}
use Rattle.hw_cert_join.proofs.forks.close.Goals as goal

pub returns-clause-fits : goal.returns-clause-fits
returns-clause-fits c = record {
  room = c.requires.fits.room;
  forks = c.requires.fits.forks;
  fit = lemmas_fit c.args.flat.now c.args.room.now c.args.climb.now.lemmas.items c.push.new.self.items c.in_ok-clause.clause _ c.in_ok-push.ensures.items c.requires.fits.fit c.requires.room c.in_ok-clause.ensures.normal;
}
