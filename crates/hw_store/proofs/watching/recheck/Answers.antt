use Rattle.std.proofs.Common.{◌∙◌, arith, sym, ap, refl, subst, take}
use Rattle.hw_model.specs.Rooms.{RoomWithin}
use Rattle.hw_store.specs.Watches.{KeepsOnes}
use Rattle.hw_store.proofs.Drops.{drops_fit}
use Rattle.hw_store.proofs.Keeping.{written}
use Rattle.hw_store.proofs.Ones.{ones_drop, stay_shown}
use Rattle.hw_store.proofs.Seen.{seen_drop, seen_around}
use Rattle.hw_store.proofs.watching.recheck.Goals as goal

pub returns-then-not-is_within-clause-ones : goal.returns-then-not-is_within-clause-ones
returns-then-not-is_within-clause-ones c =
    let w = written c.args.ones.now.len c.pass-kept.new.ones _ (omega (arith, c.pass-kept.auto.ones, c.deref_mut.ensures.len)) in
    let k : KeepsOnes c.pass-kept.new.watches c.truncate.new.self.items = subst (KeepsOnes c.pass-kept.new.watches) (sym (c.truncate.ensures.items ∙ ap (take c.pass-kept.result) w)) c.pass-kept.ensures.ones in
    ones_drop c.pass-kept.new.watches c.review.new.watches c.truncate.new.self.items k c.review.ensures.drops (stay_shown c.args.room.now c.pass-kept.new.watches c.review.new.watches c.pass-kept.ensures.shown c.review.ensures.stay)

pub returns-else-not-is_within-clause-shown : goal.returns-else-not-is_within-clause-shown
returns-else-not-is_within-clause-shown c =
    let within : RoomWithin c.args.seen.now c.args.room.now = c.is_within.ensures.within.0 c.if-not-is_within.false in
    seen_around c.args.room.now.ships c.args.seen.now c.args.room.now c.pass-kept.new.watches
    (seen_drop c.args.room.now.ships c.args.seen.now c.args.watches.now c.pass-kept.new.watches c.requires.seen c.pass-kept.ensures.drops) c.is_within.ensures.room refl within
    (drops_fit c.args.room.now.ships c.args.watches.now c.pass-kept.new.watches c.pass-kept.ensures.drops c.requires.fits) c.pass-kept.ensures.shown
