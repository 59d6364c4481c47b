use Rattle.std.proofs.Common.{◌<◌, ℕ, Bool, not, length, length-set, sym, ◌∙◌, arith}
use Rattle.std.proofs.lemmas.Bool.{not_from_true, not_from_false}
use Rattle.hw_model.specs.Timetables.{restriction_count}
use Rattle.hw_audit.specs.Keeping.{kept_holds}
use Rattle.hw_audit.proofs.Listed.{listed, passed}
use Rattle.hw_audit.proofs.listing.list_broken.Goals as goal
use Rattle.hw_audit.proofs.listing.list_broken.Goals.{then-not-kept_holds, else-not-kept_holds}

pub loop-n-preserved : goal.loop-n-preserved
loop-n-preserved c =
    let kept : ℕ → Bool = kept_holds c.args.flat.now c.args.table.now c.args.holds.now in
    let lt : c.loop-n.n < restriction_count c.args.flat.now = rw c.shape-shape.ensures.value at c.loop-n-test.true in
    let room : c.loop-n.many < length c.loop-n.out.items = omega (arith, lt, c.loop-n.invariant.few, c.loop-n.invariant.room, c.requires.places) in
    elim c.if-not-kept_holds.branch [
      | then-not-kept_holds w ↦
          rw (w.out-is, w.many-is) (record {
            few = omega (arith, c.loop-n.invariant.few);
            room = length-set c.loop-n.out.items c.loop-n.many c.loop-n.n ∙ c.loop-n.invariant.room;
            told = listed (λ n. not (kept n)) c.loop-n.n c.loop-n.many c.loop-n.out.items room (not_from_false (kept c.loop-n.n) (sym c.kept_holds.ensures.value ∙ w.if-not-kept_holds.true)) c.loop-n.invariant.told;
          })
      | else-not-kept_holds w ↦
          rw (w.out-is, w.many-is) (record {
            few = omega (arith, c.loop-n.invariant.few);
            room = c.loop-n.invariant.room;
            told = passed (λ n. not (kept n)) c.loop-n.n c.loop-n.many c.loop-n.out.items (not_from_true (kept c.loop-n.n) (sym c.kept_holds.ensures.value ∙ w.if-not-kept_holds.false)) c.loop-n.invariant.told;
          })
    ]
