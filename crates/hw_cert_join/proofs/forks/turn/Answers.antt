use Rattle.hw_cert_join.proofs.Climbing.{copy_fits, forks_fit, side_fits}
use Rattle.hw_cert_join.proofs.forks.turn.Goals as goal

pub returns : goal.returns
returns c = record {
  room = side_fits c.args.flat.now c.in_ok-later.later c.begin_at.new.room (copy_fits c.args.flat.now c.args.fork.room c.in_ok-later.later c.in_ok-later.ensures.value c.requires.room) c.begin_at.ensures.room c.begin_at.ensures.ships c.begin_at.ensures.slots;
  forks = forks_fit c.args.flat.now c.args.climb.now.forks.items c.push.new.self.items _ c.in_ok-push.ensures.items c.requires.fits.forks c.requires.room;
  fit = c.requires.fits.fit;
}
