use Rattle.std.proofs.Common.{◌≡◌, ◌∙◌, List, [], sym, subst, ap, get_or, Contains}
use Rattle.hw_model.specs.Lits.{IsLitOf}
use Rattle.hw_model.specs.Rooms.{RoomModel}
use Rattle.hw_store.specs.declared.store.Stored.{Stored}
use Rattle.hw_store.specs.declared.watching.Watch.{Watch}
use Rattle.hw_store.specs.declared.watching.Watch.TheVariants.{Two}
use Rattle.hw_store.specs.Numbering.{bucket}
use Rattle.hw_store.specs.Watches.{WatchModel, WatchedModel, Watches, IsOpenWatch, IsWatchOf, IsLastDue, KeepsBuckets}
use Rattle.hw_store.proofs.Insides.{store_of}
use Rattle.hw_store.proofs.Keeping.{keeps_watch}
use Rattle.hw_store.proofs.Standing.{stand_at, both_stand}
use Rattle.hw_store.proofs.watch.WatchStore.watch_two.Goals as goal

pub enlist-requires-2-clause-fits : goal.enlist-requires-2-clause-fits
enlist-requires-2-clause-fits c = subst (λ (w : WatchedModel). IsLitOf w.ships c.args.second) (sym c.enlist.ensures.watched) c.requires.fits.1

pub watch_two-requires-clause-fits : goal.watch_two-requires-clause-fits
watch_two-requires-clause-fits c =
    let same : c.self.inside.watched ≡ c.args.self.now.watched = ap (λ (s : WatchModel). s.watched) c.self.view_is ∙ c.enlist-2.ensures.watched ∙ c.enlist.ensures.watched in
    subst (λ (w : WatchedModel). IsWatchOf w.ships (Two c.args.first c.args.second)) (sym same) c.requires.fits

pub invariant_of-self : goal.invariant_of-self
invariant_of-self c =
    let m : WatchModel = store_of c.self.inside in
    let watch : Watch = Two c.args.first c.args.second in
    let mid : m.watched ≡ c.enlist.new.self.watched = ap (λ (s : WatchModel). s.watched) c.self.view_is ∙ c.enlist-2.ensures.watched in
    let same : m.watched ≡ c.args.self.now.watched = mid ∙ c.enlist.ensures.watched in
    let held : m.held ≡ c.args.self.now.held = ap (λ (s : WatchModel). s.held) c.self.view_is ∙ c.enlist-2.ensures.same.held ∙ c.enlist.ensures.same.held in
    let seen : m.seen ≡ c.args.self.now.seen = ap (λ (s : WatchModel). s.seen) c.self.view_is ∙ c.enlist-2.ensures.same.seen ∙ c.enlist.ensures.same.seen in
    let last : IsLastDue m.watched c.args.place = subst (λ (w : WatchedModel). IsLastDue w c.args.place) (sym same) c.requires.last in
    let one : Contains (get_or m.lists c.in_ok-one.one []) c.args.place = subst (λ (s : WatchModel). Contains (get_or s.lists c.in_ok-one.one []) c.args.place) (sym c.self.view_is)
    (c.enlist-2.ensures.grows.kept c.in_ok-one.one c.args.place c.in_ok-one.ensures.there) in
    let two : Contains (get_or m.lists c.in_ok-two.two []) c.args.place = subst (λ (s : WatchModel). Contains (get_or s.lists c.in_ok-two.two []) c.args.place) (sym c.self.view_is) c.in_ok-two.ensures.there in
    keeps_watch m c.args.place watch c.watch_two.new.self c.self.invariant last.inside c.watch_two.ensures.watch
    (subst (λ (l : List Stored). (d : Stored) → Watches (get_or l c.args.place d).clause watch) (sym held) c.requires.watches) (
      subst (λ n. Contains (get_or m.lists n []) c.args.place) (subst (λ (w : WatchedModel). c.in_ok-one.one ≡ bucket w.ships w.slots c.args.first) (sym same) c.in_ok-one.ensures.value) one,
      subst (λ n. Contains (get_or m.lists n []) c.args.place) (subst (λ (w : WatchedModel). c.in_ok-two.two ≡ bucket w.ships w.slots c.args.second) (sym mid) c.in_ok-two.ensures.value) two,
    )
    (subst (KeepsBuckets m.lists) (sym c.watch_two.ensures.stands) (stand_at m.lists m.watched.stands c.args.place _ last.beside c.self.invariant.known (both_stand m.lists c.args.place c.in_ok-one.one c.in_ok-two.two one two)))
    (subst (λ (room : RoomModel). IsOpenWatch room watch) (sym seen) c.requires.open)
