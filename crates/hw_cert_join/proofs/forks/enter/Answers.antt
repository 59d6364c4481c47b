use Rattle.hw_cert_join.proofs.Climbing.{copy_fits, forks_fit, side_fits}
use Rattle.hw_cert_join.proofs.forks.enter.Goals as goal

pub returns : goal.returns
returns c = record {
  room = side_fits c.args.flat.now c.args.climb.now.room c.end_before.new.room c.requires.fits.room c.end_before.ensures.room c.end_before.ensures.ships c.end_before.ensures.slots;
  forks = forks_fit c.args.flat.now c.args.climb.now.forks.items c.push.new.self.items _ c.in_ok-push.ensures.items c.requires.fits.forks (copy_fits c.args.flat.now c.args.climb.now.room c.in_ok-room.room c.in_ok-room.ensures.value c.requires.fits.room);
  fit = c.requires.fits.fit;
}
