use Rattle.std.proofs.Common.{◌≡◌, ◌++◌, refl}
use Rattle.std.proofs.lemmas.Result.{err_from_is_err_and}
use Rattle.hw_text.specs.Parts.{parts_of}
use Rattle.hw_flat.specs.Text.{rows_at}
use Rattle.hw_flat.proofs.Lines.{rows_go_on, rows_fail, rows_done}
use Rattle.hw_flat.proofs.reading.rows_of.Goals as goal

pub returns-in_err-row : goal.returns-in_err-row
returns-in_err-row c =
    let p = err_from_is_err_and c.from_residual.result c.from_residual.ensures.1 in
    rw (p.1, p.2)
    (rows_fail c.in_err-row.field-0.0 c.loop-i.values.items c.args.stay c.args.slots 3 c.args.ships c.loop-i.i (parts_of 10 c.loop-i.rest.now) (rows_at c.args.stay c.args.slots 3 c.args.ships (parts_of 10 c.args.bytes.now)) c.loop-i-test.true c.in_err-row.ensures c.loop-i.invariant)

pub loop-i-preserved : goal.loop-i-preserved
loop-i-preserved c =
    let grown : c.extend_from_slice.new.self.items ≡ c.loop-i.values.items ++ c.in_ok-row.row.items = rw (c.in_ok-extend_from_slice.ensures.items, c.deref.ensures.value) refl in
    rw grown
    (rows_go_on c.loop-i.values.items c.in_ok-row.row.items c.args.stay c.args.slots 3 c.args.ships c.loop-i.i (parts_of 10 c.loop-i.rest.now) (parts_of 10 c.in_ok-row.after.now) (rows_at c.args.stay c.args.slots 3 c.args.ships (parts_of 10 c.args.bytes.now)) c.loop-i-test.true
    c.in_ok-row.ensures c.loop-i.invariant)

pub returns : goal.returns
returns c = rows_done c.loop-i.values.items c.args.stay c.args.slots 3 c.args.ships c.loop-i.i (parts_of 10 c.loop-i.rest.now) (rows_at c.args.stay c.args.slots 3 c.args.ships (parts_of 10 c.args.bytes.now)) c.loop-i-test.false c.loop-i.invariant
