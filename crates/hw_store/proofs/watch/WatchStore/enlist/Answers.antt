use Rattle.std.proofs.Common.{◌<◌, ℕ, subst, length, set}
use Rattle.hw_store.specs.Watches.{WatchModel, GainsPlace}
use Rattle.hw_store.proofs.Growing.{grows_read}
use Rattle.hw_store.proofs.Insides.{store_of}
use Rattle.hw_store.proofs.Keeping.{of_view, keeps_lists}
use Rattle.hw_store.proofs.Marking.{bucket_inside}
use Rattle.hw_store.proofs.watch.WatchStore.enlist.Goals as goal

pub invariant_of-self : goal.invariant_of-self
invariant_of-self c =
    let m : WatchModel = store_of c.self.inside in
    let bucket : ℕ = c.bucket_of-bucket.result in
    let lt = bucket_inside m bucket c.buckets.result.ships c.buckets.result.slots c.self.invariant c.buckets.ensures.ships c.buckets.ensures.slots c.bucket_of-bucket.ensures.small in
    let g : GainsPlace c.args.place m.lists (set m.lists bucket c.take_in.new.self) = grows_read c.args.place bucket m.lists c.index_mut.result.now c.take_in.new.self lt c.index_mut.ensures.value c.take_in.ensures.kept c.take_in.ensures.only in
    keeps_lists m c.args.place (set m.lists bucket c.take_in.new.self) c.self.invariant g (of_view _ _ (λ (s : WatchModel). c.args.place < length s.watched.watches) c.self.view_is c.requires.inside)

pub invariant_of-self-in_err-take_in : goal.invariant_of-self-in_err-take_in
invariant_of-self-in_err-take_in c =
    let m : WatchModel = store_of c.self.inside in
    let bucket : ℕ = c.bucket_of-bucket.result in
    let lt = bucket_inside m bucket c.buckets.result.ships c.buckets.result.slots c.self.invariant c.buckets.ensures.ships c.buckets.ensures.slots c.bucket_of-bucket.ensures.small in
    let g : GainsPlace c.args.place m.lists (set m.lists bucket c.take_in.new.self) = grows_read c.args.place bucket m.lists c.index_mut.result.now c.take_in.new.self lt c.index_mut.ensures.value c.take_in.ensures.kept c.take_in.ensures.only in
    keeps_lists m c.args.place (set m.lists bucket c.take_in.new.self) c.self.invariant g (of_view _ _ (λ (s : WatchModel). c.args.place < length s.watched.watches) c.self.view_is c.requires.inside)

pub returns-in_err-take_in-clause-grows : goal.returns-in_err-take_in-clause-grows
returns-in_err-take_in-clause-grows c =
    let m : WatchModel = store_of c.self.inside in
    let bucket : ℕ = c.bucket_of-bucket.result in
    let lt = bucket_inside m bucket c.buckets.result.ships c.buckets.result.slots c.self.invariant c.buckets.ensures.ships c.buckets.ensures.slots c.bucket_of-bucket.ensures.small in
    let g : GainsPlace c.args.place m.lists (set m.lists bucket c.take_in.new.self) = grows_read c.args.place bucket m.lists c.index_mut.result.now c.take_in.new.self lt c.index_mut.ensures.value c.take_in.ensures.kept c.take_in.ensures.only in
    subst (λ (s : WatchModel). GainsPlace c.args.place s.lists (set m.lists bucket c.take_in.new.self)) c.self.view_is g

pub returns-in_ok-take_in-clause-grows : goal.returns-in_ok-take_in-clause-grows
returns-in_ok-take_in-clause-grows c =
    let m : WatchModel = store_of c.self.inside in
    let bucket : ℕ = c.bucket_of-bucket.result in
    let lt = bucket_inside m bucket c.buckets.result.ships c.buckets.result.slots c.self.invariant c.buckets.ensures.ships c.buckets.ensures.slots c.bucket_of-bucket.ensures.small in
    let g : GainsPlace c.args.place m.lists (set m.lists bucket c.take_in.new.self) = grows_read c.args.place bucket m.lists c.index_mut.result.now c.take_in.new.self lt c.index_mut.ensures.value c.take_in.ensures.kept c.take_in.ensures.only in
    subst (λ (s : WatchModel). GainsPlace c.args.place s.lists (set m.lists bucket c.take_in.new.self)) c.self.view_is g
