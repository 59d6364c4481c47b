use Rattle.std.proofs.Common.{◌≡◌, ◌∙◌, Some, sym, subst, ap, arith, List, ℕ, length, set, drop, vec_capacity, length-set}
use Rattle.hw_store.specs.declared.watching.Watch.{Watch}
use Rattle.hw_store.specs.declared.watching.Watch.TheVariants.{Two}
use Rattle.hw_store.specs.Watches.{WatchedModel, IsLastDue, IsWatchOf, KeepsDue, KeepsWatched}
use Rattle.hw_store.proofs.Insides.{watched_of}
use Rattle.hw_store.proofs.Keeping.{written}
use Rattle.hw_store.proofs.Watched.{keeps_two}
use Rattle.hw_store.proofs.watching.Watched.watch_two.Goals as goal

pub invariant_of-self : goal.invariant_of-self
invariant_of-self c =
    let m : WatchedModel = watched_of c.self.inside in
    let place : ℕ = c.args.place in
    let watch : Watch = Two c.args.lits.0 c.args.lits.1 in
    let last : IsLastDue m place = subst (λ (s : WatchedModel). IsLastDue s place) (sym c.self.view_is) c.requires.last in
    let fits : IsWatchOf m.ships watch = subst (λ (s : WatchedModel). IsWatchOf s.ships watch) (sym c.self.view_is) c.requires.fits in
    let same : c.resolve.new.watches ≡ set m.watches place watch = c.resolve.ensures.watches ∙ ap (λ (l : List Watch). set l place watch) c.deref_mut.ensures.value in
    let whole = written c.self.inside.watches.len c.resolve.new.watches (drop (length c.resolve.new.watches) c.self.inside.watches.items) (omega (arith, ap length c.resolve.ensures.watches, length-set c.deref_mut.result.now place watch, c.deref_mut.ensures.len)) in
    let keeps = subst (λ (ws : List Watch). KeepsDue ws c.resolve.new.due.items (vec_capacity c.resolve.new.due)) same c.resolve.ensures.keeps in
    let stands = set m.stands place (record { first = Some c.args.buckets.0; second = Some c.args.buckets.1 }) in
    subst (λ (ws : List Watch). KeepsWatched (record m { watches = ws; stands = stands; due = c.resolve.new.due.items }) c.self.inside.ones.items (vec_capacity c.resolve.new.due) (vec_capacity c.self.inside.ones)) (sym (whole ∙ same))
    (keeps_two m c.self.inside.ones.items (vec_capacity c.self.inside.due) (vec_capacity c.self.inside.ones) (vec_capacity c.resolve.new.due) place c.args.lits.0 c.args.lits.1 _ c.resolve.new.due.items c.self.invariant last fits keeps)
