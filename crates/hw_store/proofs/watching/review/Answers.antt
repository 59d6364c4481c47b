use Rattle.std.proofs.Common.{arith, sym, length, ◌<◌, ◌≤◌, get_or, subst, ◌+◌}
use Rattle.std.proofs.Common.{MatchBool}
use Rattle.hw_store.specs.declared.watching.Watch.TheVariants.{Due}
use Rattle.hw_store.specs.Watches.{Shows, DropsSome, StayShown}
use Rattle.hw_store.proofs.Drops.{drops_more, shows_drop, shows_keep, shows_ends, watch_fits, ShowsUpto, stay_shown_more}
use Rattle.hw_store.proofs.watching.review.Goals.{then-not-shows, else-not-shows}
use Rattle.hw_store.proofs.watching.review.Goals as goal

pub loop-place-preserved : goal.loop-place-preserved
loop-place-preserved c =
    let lt : c.loop-place.place < length c.loop-place.watches = omega arith in
    elim c.if-not-shows.branch [
      | then-not-shows w ↦ rw (w.watches-is, w.due-is) (
        w.make_due.ensures.keeps,
        subst (DropsSome c.args.watches.now) (sym w.make_due.ensures.watches) (drops_more c.args.watches.now c.loop-place.watches c.loop-place.place lt c.loop-place.invariant.1),
        subst (λ ws. ShowsUpto c.args.room.now ws (c.loop-place.place + 1)) (sym w.make_due.ensures.watches) (shows_drop c.args.room.now c.loop-place.watches c.loop-place.place lt c.loop-place.invariant.2),
        subst (StayShown c.args.room.now c.args.watches.now) (sym w.make_due.ensures.watches)
            (stay_shown_more c.args.room.now c.args.watches.now c.loop-place.watches c.loop-place.place
            (subst (λ b. MatchBool b (Shows c.args.room.now (get_or c.loop-place.watches c.loop-place.place Due)) (Shows c.args.room.now (get_or c.loop-place.watches c.loop-place.place Due) → ⊥)) w.if-not-shows.true c.shows.ensures.value) c.loop-place.invariant.3),
      )
      | else-not-shows w ↦ rw (w.watches-is, w.due-is) (
        c.loop-place.invariant.0,
        c.loop-place.invariant.1,
        shows_keep c.args.room.now c.loop-place.watches c.loop-place.place (subst (λ b. MatchBool b (Shows c.args.room.now (get_or c.loop-place.watches c.loop-place.place Due)) (Shows c.args.room.now (get_or c.loop-place.watches c.loop-place.place Due) → ⊥)) w.if-not-shows.false c.shows.ensures.value) c.loop-place.invariant.2,
        c.loop-place.invariant.3,
      )
    ]

pub shows-requires : goal.shows-requires
shows-requires c =
    let lt : c.loop-place.place < length c.loop-place.watches = omega arith in
    record { fits = watch_fits c.args.room.now.ships c.args.watches.now c.loop-place.watches c.loop-place.place c.loop-place.invariant.1 c.requires.fits lt }

pub returns-clause-shown : goal.returns-clause-shown
returns-clause-shown c =
    let le : length c.loop-place.watches ≤ c.loop-place.place = omega arith in
    shows_ends c.args.room.now c.loop-place.watches c.loop-place.place le c.loop-place.invariant.2
