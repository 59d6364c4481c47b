use Rattle.std.proofs.Common.{◌≡◌, ◌∙◌, ◌<◌, ℕ, List, [], subst, length, get_or, set}
use Rattle.std.proofs.lemmas.List.{get_or_default}
use Rattle.hw_store.specs.Watches.{WatchModel, WatchedModel, Sifted, Leaves}
use Rattle.hw_store.proofs.Insides.{store_of}
use Rattle.hw_store.proofs.Keeping.{of_view, keeps_sifts}
use Rattle.hw_store.proofs.Marking.{list_inside}
use Rattle.hw_store.proofs.Sifting.{sifts_one}
use Rattle.hw_store.proofs.Standing.{leaves_one}
use Rattle.hw_store.proofs.watch.WatchStore.mark_at.Goals as goal

pub mark-requires : goal.mark-requires
mark-requires c = record { inside = list_inside (store_of c.self.inside) c.args.bucket c.index_mut.result.now c.self.invariant (of_view _ _ (λ (s : WatchModel). c.args.bucket < length s.lists) c.self.view_is c.requires.inside) c.index_mut.ensures.value }

pub invariant_of-self : goal.invariant_of-self
invariant_of-self c =
    let m : WatchModel = store_of c.self.inside in
    let bucket : ℕ = c.args.bucket in
    let new : List ℕ = c.mark.new.self in
    let w : WatchedModel = c.mark.new.watched in
    let lt : bucket < length m.lists = of_view _ _ (λ (s : WatchModel). bucket < length s.lists) c.self.view_is c.requires.inside in
    let read : c.index_mut.result.now ≡ get_or m.lists bucket [] = c.index_mut.ensures.value ∙ get_or_default m.lists bucket c.index_mut.result.now [] lt in
    keeps_sifts m bucket c.args.cutting w (set m.lists bucket new) c.self.invariant c.mark.ensures.marks
    (sifts_one m.watched.ships m.watched.slots bucket c.args.cutting w.watches m.lists new lt (subst (λ l. Sifted m.watched.ships m.watched.slots bucket c.args.cutting w.watches l new) read c.mark.ensures.sifted))
    (leaves_one m.lists bucket new m.watched.stands w.stands lt c.self.invariant.known c.mark.ensures.marks.forgets (subst (λ l. Leaves bucket w.stands l new) read c.mark.ensures.leaves))
