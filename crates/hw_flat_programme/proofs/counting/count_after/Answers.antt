use Rattle.std.proofs.Common.{◌≡◌, ◌<◌, ◌≤◌, ℕ, List, length, refl, ap, arith}
use Rattle.hw_flat_programme.specs.Programmes.{Row}
use Rattle.hw_model.specs.declared.shape.Shape.{Shape}
use Rattle.hw_flat_programme.specs.Rows.{after_spans, row_at_most, numbered_rows}
use Rattle.hw_flat_programme.proofs.Onward.{counts_next, counts_end}
use Rattle.hw_flat_programme.proofs.counting.count_after.Goals as goal

pub loop-slot-preserved : goal.loop-slot-preserved
loop-slot-preserved c =
    let lt : c.loop-slot.slot < c.args.flat.now.slots = omega (arith, ap (λ (s : Shape). s.slots) c.shape-slot-end.ensures.value, c.loop-slot-test.true) in
    let next = counts_next (λ slot. row_at_most c.args.flat.now 1 (after_spans c.args.flat.now c.args.v c.args.w c.args.gap slot)) (numbered_rows c.args.flat.now (λ k. 1) (after_spans c.args.flat.now c.args.v c.args.w c.args.gap)) (λ k more. refl) c.loop-slot.slot (c.args.flat.now.slots) lt in
    let one : ℕ → List Row = λ slot. row_at_most c.args.flat.now 1 (after_spans c.args.flat.now c.args.v c.args.w c.args.gap slot) in
    let here : c.count_at_most-count.result ≡ length (one c.loop-slot.slot) = rw c.after_spans.ensures.value at c.count_at_most-count.ensures.value in
    (omega (arith, next, here, c.loop-slot.invariant.0), omega (arith, c.loop-slot.invariant.1, c.count_at_most-count.ensures.small))

pub returns : goal.returns
returns c =
    let le : c.args.flat.now.slots ≤ c.loop-slot.slot = omega (arith, ap (λ (s : Shape). s.slots) c.shape-slot-end.ensures.value, c.loop-slot-test.false) in
    let none = counts_end (numbered_rows c.args.flat.now (λ k. 1) (after_spans c.args.flat.now c.args.v c.args.w c.args.gap)) (λ k. refl) c.loop-slot.slot (c.args.flat.now.slots) le in
    record { value = omega (arith, none, c.loop-slot.invariant.0); small = omega (arith, ap (λ (s : Shape). s.slots) c.shape-slot-end.ensures.value, c.loop-slot.invariant.1) }
