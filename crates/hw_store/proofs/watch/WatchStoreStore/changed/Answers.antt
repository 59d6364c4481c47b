use Rattle.std.proofs.Common.{◌≡◌, ◌∙◌, sym, subst, ap}
use Rattle.hw_model_laws.proofs.Cuts.{same_ships}
use Rattle.hw_store.specs.Numbering.{HitsWithin}
use Rattle.hw_store.specs.Watches.{WatchModel, KeepsWatches}
use Rattle.hw_store.proofs.Keeping.{numbers, marked_shows}
use Rattle.hw_store.proofs.watch.WatchStoreStore.changed.Goals as goal

pub returns-clause-ready : goal.returns-clause-ready
returns-clause-ready c =
    let s : WatchModel = c.args.self.now in
    let run = c.buckets_hit-first.result in
    let ships : s.watched.ships ≡ c.buckets.result.ships = sym (c.buckets.ensures.ships ∙ ap (λ (m : WatchModel). m.watched.ships) c.self.view_is) in
    let slots : s.watched.slots ≡ c.buckets.result.slots = sym (c.buckets.ensures.slots ∙ ap (λ (m : WatchModel). m.watched.slots) c.self.view_is) in (
      same_ships c.args.before.now c.args.lit ∙ c.requires.ready.0 ∙ sym c.mark_run.ensures.marks.same_ships,
      marked_shows s c.args.before.now run c.args.lit c.mark_run.new.self.watched.watches (subst KeepsWatches c.self.view_is c.self.invariant) c.requires.ready c.ships-ships.ensures.room c.requires.fits c.requires.free c.mark_run.ensures.marks.drops
          (numbers (λ m n. HitsWithin m n c.args.before.now c.args.lit run) c.buckets.result.ships c.buckets.result.slots s.watched.ships s.watched.slots ships slots c.buckets_hit-first.ensures.within) c.mark_run.ensures.missed,
    )
