use Rattle.std.proofs.Common.{◌≡◌, ◌∙◌, ◌<◌, true, sym, subst, ap, arith, List, length, get_or, set, drop, vec_capacity, length-set}
use Rattle.hw_store.specs.declared.watching.Watch.{Watch}
use Rattle.hw_store.specs.declared.watching.Watch.TheVariants.{Due}
use Rattle.hw_store.specs.Watches.{WatchedModel, is_hit, KeepsDue, KeepsWatched}
use Rattle.hw_store.proofs.Insides.{watched_of}
use Rattle.hw_store.proofs.Keeping.{written}
use Rattle.hw_store.proofs.Drops.{drops_none, drops_more}
use Rattle.hw_store.proofs.Ones.{stay_due, hit_two}
use Rattle.hw_store.proofs.Watched.{keeps_dropped, read_at}
use Rattle.hw_store.proofs.watching.Watched.stays.Goals as goal

pub invariant_of-self : goal.invariant_of-self
invariant_of-self c =
    let m : WatchedModel = watched_of c.self.inside in
    let place = c.args.place in
    let lt : place < length m.watches = subst (λ (s : WatchedModel). place < length s.watches) (sym c.self.view_is) c.requires.inside in
    let none = hit_two c.args.cutting (get_or m.watches place Due) (subst (λ (w : Watch). is_hit c.args.cutting w ≡ true) (read_at m.watches place c.index-watch.result.now lt c.index-watch.ensures) (sym c.is_hit.ensures.value ∙ c.if-is_hit.true)) in
    let same : c.make_due.new.watches ≡ set m.watches place Due = c.make_due.ensures.watches ∙ ap (λ (l : List Watch). set l place Due) c.deref_mut.ensures.value in
    let whole = written c.self.inside.watches.len c.make_due.new.watches (drop (length c.make_due.new.watches) c.self.inside.watches.items) (omega (arith, ap length c.make_due.ensures.watches, length-set c.deref_mut.result.now place Due, c.deref_mut.ensures.len)) in
    subst (λ (ws : List Watch). KeepsWatched (record m { watches = ws; due = c.make_due.new.due.items }) c.self.inside.ones.items (vec_capacity c.make_due.new.due) (vec_capacity c.self.inside.ones)) (sym (whole ∙ same))
    (keeps_dropped m c.self.inside.ones.items (vec_capacity c.self.inside.due) (vec_capacity c.self.inside.ones) (vec_capacity c.make_due.new.due) (set m.watches place Due) c.make_due.new.due.items c.self.invariant (drops_more m.watches m.watches place lt (drops_none m.watches)) (stay_due m.watches place none)
    (subst (λ (ws : List Watch). KeepsDue ws c.make_due.new.due.items (vec_capacity c.make_due.new.due)) same c.make_due.ensures.keeps))
