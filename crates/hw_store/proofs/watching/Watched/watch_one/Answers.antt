use Rattle.std.proofs.Common.{◌≡◌, ◌∙◌, ◌++◌, ◌∷◌, [], sym, subst, ap, arith, List, ℕ, length, set, drop, vec_capacity, length-set}
use Rattle.hw_store.specs.declared.watching.Watch.{Watch}
use Rattle.hw_store.specs.declared.watching.Watch.TheVariants.{One}
use Rattle.hw_store.specs.Watches.{WatchedModel, IsLastDue, IsWatchOf, KeepsDue, KeepsWatched}
use Rattle.hw_store.proofs.Insides.{watched_of}
use Rattle.hw_store.proofs.Keeping.{written}
use Rattle.hw_store.proofs.Ones.{room_for_one}
use Rattle.hw_store.proofs.Watched.{last_is_due, keeps_one}
use Rattle.hw_store.proofs.watching.Watched.watch_one.Goals as goal

pub push_reserved-requires : goal.push_reserved-requires
push_reserved-requires c =
    let m : WatchedModel = watched_of c.self.inside in
    let last : IsLastDue m c.args.place = subst (λ (s : WatchedModel). IsLastDue s c.args.place) (sym c.self.view_is) c.requires.last in
    let less = room_for_one m.watches c.self.inside.ones.items c.args.place c.self.invariant.ones last.inside (last_is_due m c.self.inside.ones.items (vec_capacity c.self.inside.due) (vec_capacity c.self.inside.ones) c.args.place c.self.invariant last) in
    omega (arith, less, c.self.invariant.reserved)

pub invariant_of-self : goal.invariant_of-self
invariant_of-self c =
    let m : WatchedModel = watched_of c.self.inside in
    let place : ℕ = c.args.place in
    let watch : Watch = One c.args.lit in
    let last : IsLastDue m place = subst (λ (s : WatchedModel). IsLastDue s place) (sym c.self.view_is) c.requires.last in
    let fits : IsWatchOf m.ships watch = subst (λ (s : WatchedModel). IsWatchOf s.ships watch) (sym c.self.view_is) c.requires.fits in
    let same : c.resolve.new.watches ≡ set m.watches place watch = c.resolve.ensures.watches ∙ ap (λ (l : List Watch). set l place watch) c.deref_mut.ensures.value in
    let whole = written c.self.inside.watches.len c.resolve.new.watches (drop (length c.resolve.new.watches) c.self.inside.watches.items) (omega (arith, ap length c.resolve.ensures.watches, length-set c.deref_mut.result.now place watch, c.deref_mut.ensures.len)) in
    let keeps = subst (λ (ws : List Watch). KeepsDue ws c.resolve.new.due.items (vec_capacity c.resolve.new.due)) same c.resolve.ensures.keeps in
    let new : WatchedModel = record m { watches = set m.watches place watch; due = c.resolve.new.due.items } in
    subst (λ (ws : List Watch). KeepsWatched (record m { watches = ws; due = c.resolve.new.due.items }) c.push_reserved.new.self.items (vec_capacity c.resolve.new.due) (vec_capacity c.push_reserved.new.self)) (sym (whole ∙ same))
    (subst (λ (ones : List ℕ). KeepsWatched new ones (vec_capacity c.resolve.new.due) (vec_capacity c.push_reserved.new.self)) (sym c.push_reserved.ensures.items)
    (subst (KeepsWatched new (c.self.inside.ones.items ++ place ∷ []) (vec_capacity c.resolve.new.due)) (sym c.push_reserved.ensures.capacity)
    (keeps_one m c.self.inside.ones.items (vec_capacity c.self.inside.due) (vec_capacity c.self.inside.ones) (vec_capacity c.resolve.new.due) place c.args.lit c.resolve.new.due.items c.self.invariant last fits keeps)))
