use Rattle.std.proofs.Common.{arith, sym, ◌+◌, drop, rules, true, ◌≡◌, w32}
use Rattle.std.proofs.lemmas.Int.{to_z-of_z}
use mir.Val.{SFits}
use Rattle.csv.specs.Records.{fields_of}
use Rattle.std.specs.Result.{is_ok}
use Rattle.hw_tide.proofs.Fields.{next_height, left_over}
use Rattle.hw_tide.proofs.levels.heights_of.Goals as goal

pub loop-column-preserved : goal.loop-column-preserved
loop-column-preserved c =
    let good : is_ok c.push.result ≡ true = search rules in
    let fits : SFits w32 c.in-Some-read_signed.height = search rules in
    let items = simp to_z-of_z at (rw good at c.push.ensures.items) in
    rw items (next_height c.args.row c.loop-column.column c.loop-column.heights.items c.in-Some.field.now _ (drop (c.loop-column.column + 1) (fields_of c.args.fields.now)) c.in-Some-read_signed.height _ c.in-Some.ensures (sym c.in-Some-read_signed.ensures.value) c.loop-column.invariant)

pub unreachable-requires : goal.unreachable-requires
unreachable-requires c = left_over (fields_of c.args.fields.now) c.loop-column.column (omega (arith, c.loop-column-test.true, c.len-column-end.ensures)) c.in_default.ensures
