use Rattle.std.proofs.Common.{sym, subst}
use Rattle.hw_model.specs.Rooms.{RoomModel}
use Rattle.hw_store.specs.Watches.{WatchModel, WatchReady, KeepsSeen}
use Rattle.hw_store.proofs.Insides.{store_of}
use Rattle.hw_store.proofs.Keeping.{of_view, keeps_seen}
use Rattle.hw_store.proofs.Seen.{seen_now}
use Rattle.hw_store.proofs.watch.WatchStoreStore.step.Goals as goal

pub invariant_of-self : goal.invariant_of-self
invariant_of-self c =
    let m : WatchModel = store_of c.self.inside in
    let r : WatchReady m c.args.room.now = of_view _ _ (λ (s : WatchModel). WatchReady s c.args.room.now) c.self.view_is c.requires.ready in
    keeps_seen m c.copy_from.new.self c.self.invariant (subst (λ (room : RoomModel). KeepsSeen m.watched.ships room m.watched.watches) (sym c.copy_from.ensures.value) (seen_now m.watched.ships c.args.room.now m.watched.watches r.0 r.1))
