use Rattle.std.proofs.Common.{sym}
use Rattle.hw_flat.specs.TextForms.{row_values}
use Rattle.hw_flat.proofs.Rows.{row_ends, row_fails, row_goes_on}
use Rattle.hw_flat.proofs.forms.values_of.Goals as goal

pub returns-in_default : goal.returns-in_default
returns-in_default c = row_ends c.loop-slot.values.items c.args.stay c.args.slots c.loop-slot.slot (row_values c.args.stay c.args.slots c.args.words) c.loop-slot-test.true (rw c.in_default.ensures.0 at c.loop-slot.invariant)

pub returns-in_default-value_of : goal.returns-in_default-value_of
returns-in_default-value_of c =
    row_fails c.loop-slot.values.items c.args.stay c.args.slots c.loop-slot.slot c.in-Some.word.now c.loop-slot.words c.word.new.self (row_values c.args.stay c.args.slots c.args.words) c.loop-slot-test.true
    c.in-Some.ensures (sym c.in_default-value_of.ensures) c.loop-slot.invariant

pub loop-slot-preserved : goal.loop-slot-preserved
loop-slot-preserved c =
    rw c.in_ok-push.ensures.items
    (row_goes_on c.loop-slot.values.items c.args.stay c.args.slots c.loop-slot.slot c.in-Some.word.now c.in-Some-value_of.value c.loop-slot.words c.word.new.self (row_values c.args.stay c.args.slots c.args.words)
    c.loop-slot-test.true c.in-Some.ensures (sym c.in-Some-value_of.ensures) c.loop-slot.invariant)
