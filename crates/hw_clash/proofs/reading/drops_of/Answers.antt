use Rattle.std.proofs.lemmas.Result.{err_from_is_err_and}
use Rattle.hw_text.specs.Parts.{parts_of}
use Rattle.hw_clash.specs.Text.{drops_at}
use Rattle.hw_clash.proofs.Lines.{drops_go_on, drops_fail, drops_done, drop_all}
use Rattle.hw_clash.proofs.reading.drops_of.Goals as goal

pub returns-in_err-table : goal.returns-in_err-table
returns-in_err-table c =
    let p = err_from_is_err_and c.from_residual.result c.from_residual.ensures.1 in
    rw (p.1, p.2)
    (drops_fail c.in_err-table.field-0.0 c.args.wished.now c.args.kept.now c.loop-place.drops.items c.loop-place.place (parts_of 10 c.loop-place.rest.now) (drops_at c.args.wished.now c.args.kept.now 3 c.args.kept.now (parts_of 10 c.args.bytes.now)) c.loop-place-test.true c.in_err-table.ensures c.loop-place.invariant)

pub loop-place-preserved : goal.loop-place-preserved
loop-place-preserved c =
    rw c.in_ok-push.ensures.items
    (drops_go_on c.args.wished.now c.args.kept.now c.loop-place.drops.items c.in_ok-table.table c.loop-place.place (parts_of 10 c.loop-place.rest.now) (parts_of 10 c.in_ok-table.after.now) (drops_at c.args.wished.now c.args.kept.now 3 c.args.kept.now (parts_of 10 c.args.bytes.now)) c.loop-place-test.true c.in_ok-table.ensures c.loop-place.invariant)

pub returns : goal.returns
returns c = drops_done c.args.wished.now c.args.kept.now c.loop-place.drops.items c.loop-place.place (parts_of 10 c.loop-place.rest.now) (drops_at c.args.wished.now c.args.kept.now 3 c.args.kept.now (parts_of 10 c.args.bytes.now)) (drop_all c.args.kept.now c.loop-place.place c.loop-place-test.false) c.loop-place.invariant
