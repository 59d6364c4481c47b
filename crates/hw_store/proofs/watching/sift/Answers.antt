use Rattle.std.proofs.Common.{◌≡◌, ◌+◌, ◌<◌, ℕ, List, false, arith, sym, ◌∙◌, subst, length, get_or, set}
use Rattle.hw_store.specs.declared.watching.Watch.{Watch}
use Rattle.hw_store.specs.declared.watching.Watch.TheVariants.{Due}
use Rattle.hw_store.specs.Watches.{is_hit, is_on, is_among, nowhere}
use Rattle.hw_store.proofs.Keeping.{numbers}
use Rattle.hw_store.proofs.Marking.{marks_twice}
use Rattle.hw_store.proofs.Standing.{Leaving, leave_keeps, leave_passes, leave_ends, leaving_on}
use Rattle.hw_store.proofs.Sifting.{Sifting, sift_passes, sift_keeps, sift_ends}
use Rattle.hw_store.proofs.watching.sift.Goals.{then-stays, else-stays}
use Rattle.hw_store.proofs.watching.sift.Goals as goal

pub loop-at-preserved : goal.loop-at-preserved
loop-at-preserved c =
    let ships : ℕ = c.args.watched.now.ships in
    let slots : ℕ = c.args.watched.now.slots in
    let old : List ℕ = c.args.places.now in
    let now : List ℕ = c.loop-at.places in
    let at : ℕ = c.loop-at.at in
    let kept : ℕ = c.loop-at.kept in
    let ws : List Watch = c.stays.new.self.watches in
    let lt : at < length old = omega arith in
    let same : get_or now at 0 ≡ get_or old at 0 = c.loop-at.invariant.1.same_after at (omega arith) in
    let missed : is_hit c.args.cutting (get_or ws (get_or old at 0) Due) ≡ false = subst (λ n. is_hit c.args.cutting (get_or ws n Due) ≡ false) same c.stays.ensures.missed in
    let marks = marks_twice c.args.watched.now c.loop-at.watched c.stays.new.self c.loop-at.invariant.0 c.stays.ensures.marks in
    let leaving = leaving_on c.args.bucket c.loop-at.watched.stands c.stays.new.self.stands old now at kept c.stays.ensures.marks.forgets c.loop-at.invariant.2 in
    elim c.if-stays.branch [
      | then-stays w ↦ rw (w.places-is, w.kept-is, w.watched-is) (
        marks,
        subst (λ n. Sifting ships slots c.args.bucket c.args.cutting ws old (set now kept n) (at + 1) (kept + 1)) (sym same)
            (sift_keeps ships slots c.args.bucket c.args.cutting c.loop-at.watched.watches ws old now at kept c.loop-at.invariant.1 lt c.stays.ensures.marks.drops missed),
        subst (λ n. Leaving c.args.bucket c.stays.new.self.stands old (set now kept n) (at + 1) (kept + 1)) (sym same)
            (leave_keeps c.args.bucket c.stays.new.self.stands old now at kept (omega (arith, lt, c.loop-at.invariant.1.few, c.loop-at.invariant.1.same_length)) leaving),
      )
      | else-stays w ↦ rw (w.places-is, w.kept-is, w.watched-is) (
          let off : is_on c.loop-at.watched.ships c.loop-at.watched.slots c.args.bucket (get_or ws (get_or old at 0) Due) ≡ false = subst (λ n. is_on c.loop-at.watched.ships c.loop-at.watched.slots c.args.bucket (get_or ws n Due) ≡ false) same (sym c.stays.ensures.value ∙ w.if-stays.false) in (
            marks_twice c.args.watched.now c.stays.new.self w.leave.new.self marks w.leave.ensures.marks,
            subst (λ (v : List Watch). Sifting ships slots c.args.bucket c.args.cutting v old now (at + 1) kept) (sym w.leave.ensures.watches)
                (sift_passes ships slots c.args.bucket c.args.cutting c.loop-at.watched.watches ws old now at kept c.loop-at.invariant.1 c.stays.ensures.marks.drops missed
                (numbers (λ m n. is_on m n c.args.bucket (get_or ws (get_or old at 0) Due) ≡ false) c.loop-at.watched.ships c.loop-at.watched.slots ships slots (sym c.loop-at.invariant.0.same_ships) (sym c.loop-at.invariant.0.same_slots) off)),
            leave_passes c.args.bucket c.stays.new.self.stands w.leave.new.self.stands old now at kept w.leave.ensures.marks.forgets
                (subst (λ n. is_among (get_or w.leave.new.self.stands n nowhere) c.args.bucket ≡ false) same w.leave.ensures.gone) leaving,
          ))
    ]

pub returns-clause-sifted : goal.returns-clause-sifted
returns-clause-sifted c =
    let end : c.loop-at.at ≡ length c.args.places.now = omega arith in
    sift_ends c.args.watched.now.ships c.args.watched.now.slots c.args.bucket c.args.cutting c.loop-at.watched.watches c.args.places.now c.loop-at.places c.loop-at.at c.loop-at.kept c.loop-at.invariant.1 end

pub returns-clause-leaves : goal.returns-clause-leaves
returns-clause-leaves c =
    let end : c.loop-at.at ≡ length c.args.places.now = omega arith in
    leave_ends c.args.bucket c.loop-at.watched.stands c.args.places.now c.loop-at.places c.loop-at.at c.loop-at.kept c.loop-at.invariant.2 end (omega (arith, c.loop-at.invariant.1.few, c.loop-at.invariant.1.same_length, end))
