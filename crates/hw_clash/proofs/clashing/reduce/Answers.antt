use Rattle.std.proofs.Common.{◌≡◌, ◌<◌, ◌≤◌, ◌++◌, [], ◌∷◌}
use Rattle.hw_clash.specs.Wished.{wished_count}
use Rattle.hw_clash.specs.Asking.{NoneAt, FitsAt}
use Rattle.hw_clash.specs.Parts.{part}
use Rattle.hw_clash.specs.Clashing.{without_number}
use Rattle.hw_clash.proofs.Reducing.{numbers_without, asked_there, taken_away, one_kept, all_tried, fits_without}
use Rattle.hw_clash.proofs.clashing.reduce.Goals as goal
use Rattle.hw_clash.proofs.clashing.reduce.Goals.{in-NoneFits, in-Fits+in-Some}

pub ask-requires-clause-numbered : goal.ask-requires-clause-numbered
ask-requires-clause-numbered c = rw c.deref-in-loop-n.ensures.value (numbers_without c.args.wished.now c.loop-n.n c.loop-n.kept.items c.loop-n.drops.items c.loop-n.n c.in-Ok.others.items c.loop-n.invariant.reducing (rw c.deref.ensures.value at c.in-Ok.ensures)).numbered

pub ask-requires-clause-ascending : goal.ask-requires-clause-ascending
ask-requires-clause-ascending c = rw c.deref-in-loop-n.ensures.value (numbers_without c.args.wished.now c.loop-n.n c.loop-n.kept.items c.loop-n.drops.items c.loop-n.n c.in-Ok.others.items c.loop-n.invariant.reducing (rw c.deref.ensures.value at c.in-Ok.ensures)).ascending

pub returns-in-Spent : goal.returns-in-Spent
returns-in-Spent c =
    asked_there c.args.wished.now c.loop-n.n c.loop-n.kept.items c.in-Ok.others.items c.loop-n.drops.items c.args.budget c.args.first c.in-Spent.proof c.requires.none (rw c.count-many.ensures.value at c.loop-n-test.true) c.loop-n.invariant.reducing (rw c.deref.ensures.value at c.in-Ok.ensures) (rw c.deref-in-loop-n.ensures.value at c.in-Spent.ensures)

pub loop-n-preserved : goal.loop-n-preserved
loop-n-preserved c =
    let lt : c.loop-n.n < wished_count c.args.wished.now = rw c.count-many.ensures.value at c.loop-n-test.true in
    let others : c.in-Ok.others.items ≡ without_number c.loop-n.n c.loop-n.kept.items = rw c.deref.ensures.value at c.in-Ok.ensures in
    elim c.match-ask.branch [
      | in-NoneFits w ↦
          let none : NoneAt (part c.args.wished.now c.in-Ok.others.items) w.in-NoneFits.shown = rw c.deref-in-loop-n.ensures.value at w.in-NoneFits.ensures in
          rw (w.kept-is, w.proof-is, w.drops-is) (record {
            reducing = taken_away c.args.wished.now c.loop-n.n c.loop-n.kept.items c.in-Ok.others.items c.loop-n.drops.items lt c.loop-n.invariant.reducing others none.none;
            shown = none;
          })
      | in-Fits+in-Some w ↦
          let fits : FitsAt (part c.args.wished.now c.in-Ok.others.items) w.in-Fits.table w.in-Fits.proof = rw c.deref-in-loop-n.ensures.value at w.in-Fits.ensures in
          let grown : w.in-Some.more.items ≡ c.loop-n.drops.items ++ w.in-Fits.table ∷ [] = w.in-Some.ensures in
          rw (w.kept-is, w.proof-is, w.drops-is, grown) (record {
            reducing = one_kept c.args.wished.now c.loop-n.n c.loop-n.kept.items c.loop-n.drops.items w.in-Fits.table lt c.loop-n.invariant.reducing (fits_without c.args.wished.now c.loop-n.n c.loop-n.kept.items c.in-Ok.others.items w.in-Fits.table w.in-Fits.proof others fits);
            shown = c.loop-n.invariant.shown;
          })
    ]

pub returns : goal.returns
returns c =
    let le : wished_count c.args.wished.now ≤ c.loop-n.n = rw c.count-many.ensures.value at c.loop-n-test.false in
    all_tried c.args.wished.now c.loop-n.n c.loop-n.kept.items c.loop-n.drops.items c.loop-n.proof c.args.first c.count-many.ensures.limits.limits le (rw c.count-many.ensures.value at c.loop-n.auto.n-end) c.loop-n.invariant.reducing c.requires.none c.loop-n.invariant.shown
