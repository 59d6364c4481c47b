use Rattle.std.proofs.Common.{◌≡◌, ◌+◌, ◌<◌, arith, sym, subst, List, length, get_or, set, MatchBool}
use Rattle.hw_store.specs.declared.watching.Watch.{Watch}
use Rattle.hw_store.specs.declared.watching.Watch.TheVariants.{Due}
use Rattle.hw_store.specs.Watches.{Shows, DropsSome}
use Rattle.hw_store.proofs.Drops.{drops_none, drops_more, watch_fits}
use Rattle.hw_store.proofs.Ones.{Passing, pass_starts, pass_keeps, pass_drops, pass_ends, pass_shows}
use Rattle.hw_store.proofs.watching.pass.Goals.{then-shows, else-shows}
use Rattle.hw_store.proofs.watching.pass.Goals as goal

pub loop-at-init : goal.loop-at-init
loop-at-init c = (c.requires.keeps, drops_none c.args.watches.now, pass_starts c.args.room.now c.args.watches.now c.args.ones.now c.requires.ones)

pub shows-requires : goal.shows-requires
shows-requires c =
    let lt : c.loop-at.at < length c.args.ones.now = omega arith in
    let same : get_or c.loop-at.ones c.loop-at.at 0 ≡ get_or c.args.ones.now c.loop-at.at 0 = c.loop-at.invariant.2.same_after c.loop-at.at (omega arith) in
    let old : get_or c.args.ones.now c.loop-at.at 0 < length c.loop-at.watches = subst (λ n. get_or c.args.ones.now c.loop-at.at 0 < n) (sym c.loop-at.invariant.1.same_length) (c.requires.ones.among c.loop-at.at 0 lt) in
    let in' : get_or c.loop-at.ones c.loop-at.at 0 < length c.loop-at.watches = subst (λ n. n < length c.loop-at.watches) (sym same) old in
    record { fits = watch_fits c.args.room.now.ships c.args.watches.now c.loop-at.watches (get_or c.loop-at.ones c.loop-at.at 0) c.loop-at.invariant.1 c.requires.fits in' }

pub loop-at-preserved : goal.loop-at-preserved
loop-at-preserved c =
    let lt : c.loop-at.at < length c.args.ones.now = omega arith in
    let same : get_or c.loop-at.ones c.loop-at.at 0 ≡ get_or c.args.ones.now c.loop-at.at 0 = c.loop-at.invariant.2.same_after c.loop-at.at (omega arith) in
    let old : get_or c.args.ones.now c.loop-at.at 0 < length c.loop-at.watches = subst (λ n. get_or c.args.ones.now c.loop-at.at 0 < n) (sym c.loop-at.invariant.1.same_length) (c.requires.ones.among c.loop-at.at 0 lt) in
    elim c.if-shows.branch [
      | then-shows w ↦ rw (w.ones-is, w.watches-is, w.due-is, w.kept-is) (
        c.loop-at.invariant.0,
        c.loop-at.invariant.1,
        subst (λ n. Passing c.args.room.now c.loop-at.watches c.args.ones.now (set c.loop-at.ones c.loop-at.kept n) (c.loop-at.at + 1) (c.loop-at.kept + 1)) (sym same)
            (pass_keeps c.args.room.now c.loop-at.watches c.args.ones.now c.loop-at.ones c.loop-at.at c.loop-at.kept c.loop-at.invariant.2 lt old
            (subst (λ n. Shows c.args.room.now (get_or c.loop-at.watches n Due)) same
            (subst (λ b. MatchBool b (Shows c.args.room.now (get_or c.loop-at.watches (get_or c.loop-at.ones c.loop-at.at 0) Due)) (Shows c.args.room.now (get_or c.loop-at.watches (get_or c.loop-at.ones c.loop-at.at 0) Due) → ⊥)) w.if-shows.true c.shows.ensures.value))),
      )
      | else-shows w ↦ rw (w.ones-is, w.watches-is, w.due-is, w.kept-is) (
        w.make_due.ensures.keeps,
        subst (DropsSome c.args.watches.now) (sym w.make_due.ensures.watches) (drops_more c.args.watches.now c.loop-at.watches (get_or c.loop-at.ones c.loop-at.at 0) (subst (λ n. n < length c.loop-at.watches) (sym same) old) c.loop-at.invariant.1),
        subst (λ (ws : List Watch). Passing c.args.room.now ws c.args.ones.now c.loop-at.ones (c.loop-at.at + 1) c.loop-at.kept) (sym w.make_due.ensures.watches)
            (subst (λ n. Passing c.args.room.now (set c.loop-at.watches n Due) c.args.ones.now c.loop-at.ones (c.loop-at.at + 1) c.loop-at.kept) (sym same)
            (pass_drops c.args.room.now c.loop-at.watches c.args.ones.now c.loop-at.ones c.loop-at.at c.loop-at.kept c.loop-at.invariant.2 old)),
      )
    ]

pub returns : goal.returns
returns c =
    let end : c.loop-at.at ≡ length c.args.ones.now = omega arith in
    record {
      keeps = c.loop-at.invariant.0;
      drops = c.loop-at.invariant.1;
      ones = pass_ends c.args.room.now c.loop-at.watches c.args.ones.now c.loop-at.ones c.loop-at.at c.loop-at.kept c.loop-at.invariant.2 end;
      shown = pass_shows c.args.room.now c.loop-at.watches c.args.ones.now c.loop-at.ones c.loop-at.at c.loop-at.kept c.loop-at.invariant.2 end;
    }
