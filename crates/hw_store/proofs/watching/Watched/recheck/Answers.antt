use Rattle.std.proofs.Common.{◌≡◌, ◌∙◌, sym, subst, arith, All, List, length, drop, vec_capacity}
use Rattle.hw_store.specs.declared.watching.Watch.{Watch}
use Rattle.hw_store.specs.Watches.{WatchedModel, IsWatchOf, DropsSome, KeepsOnes, KeepsSeen, KeepsWatched}
use Rattle.hw_store.proofs.Insides.{watched_of}
use Rattle.hw_store.proofs.Keeping.{written}
use Rattle.hw_store.proofs.Drops.{drops_fit}
use Rattle.hw_store.proofs.watching.Watched.recheck.Goals as goal

pub recheck-requires-clause-fits : goal.recheck-requires-clause-fits
recheck-requires-clause-fits c =
    let m : WatchedModel = watched_of c.self.inside in
    let ships = subst (λ (s : WatchedModel). c.args.room.now.ships ≡ s.ships) (sym c.self.view_is) c.requires.fits in
    subst (All (IsWatchOf c.args.room.now.ships)) (sym c.deref_mut.ensures.value) (subst (λ n. All (IsWatchOf n) m.watches) (sym ships) c.self.invariant.fits)

pub recheck-requires-clause-ones : goal.recheck-requires-clause-ones
recheck-requires-clause-ones c = subst (λ (ws : List Watch). KeepsOnes ws c.self.inside.ones.items) (sym c.deref_mut.ensures.value) c.self.invariant.ones

pub recheck-requires-clause-seen : goal.recheck-requires-clause-seen
recheck-requires-clause-seen c =
    let m : WatchedModel = watched_of c.self.inside in
    subst (KeepsSeen c.args.room.now.ships c.args.seen.now) (sym c.deref_mut.ensures.value)
    (subst (λ n. KeepsSeen n c.args.seen.now m.watches) (sym (subst (λ (s : WatchedModel). c.args.room.now.ships ≡ s.ships) (sym c.self.view_is) c.requires.fits))
    (subst (λ (s : WatchedModel). KeepsSeen s.ships c.args.seen.now s.watches) (sym c.self.view_is) c.requires.seen))

pub invariant_of-self : goal.invariant_of-self
invariant_of-self c =
    let m : WatchedModel = watched_of c.self.inside in
    let drops : DropsSome m.watches c.recheck.new.watches = subst (λ (ws : List Watch). DropsSome ws c.recheck.new.watches) c.deref_mut.ensures.value c.recheck.ensures.drops in
    let whole = written c.self.inside.watches.len c.recheck.new.watches (drop (length c.recheck.new.watches) c.self.inside.watches.items) (omega (arith, c.recheck.ensures.drops.same_length, c.deref_mut.ensures.len)) in
    subst (λ (ws : List Watch). KeepsWatched (record m { watches = ws; due = c.recheck.new.due.items }) c.recheck.new.ones.items (vec_capacity c.recheck.new.due) (vec_capacity c.recheck.new.ones)) (sym whole) (record {
      fits = drops_fit m.ships m.watches c.recheck.new.watches drops c.self.invariant.fits;
      beside = c.self.invariant.beside ∙ sym drops.same_length;
      due = c.recheck.ensures.keeps;
      ones = c.recheck.ensures.ones;
      reserved = omega (arith, drops.same_length, c.recheck.ensures.reserved, c.self.invariant.reserved);
    })
