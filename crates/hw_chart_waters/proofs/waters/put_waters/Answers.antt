use Rattle.std.proofs.Common.{arith}
use Rattle.hw_desk.proofs.Written.{puts_on, puts_same, puts_nothing}
use Rattle.hw_chart_waters.specs.Columns.{column_height}
use Rattle.hw_chart_waters.specs.Labels.{label_of_some}
use Rattle.hw_chart_waters.specs.Stands.{stand_at}
use Rattle.hw_chart_waters.proofs.Onward.{labels_all, labels_end, labels_next}
use Rattle.hw_chart_waters.proofs.waters.put_waters.Goals as goal

pub loop-row-preserved : goal.loop-row-preserved
loop-row-preserved g c =
    let same = c.rows-rows.ensures.value in
    let test = c.loop-row-test.true in
    let column = c.args.column.now in
    let here = stand_at c.args.kind (column_height column) column.rows c.loop-row.row in (
      c.put_water_at-free.ensures.few,
      λ end h. c.loop-row.invariant.1 end (puts_same _ (labels_next c.args.column.now c.args.kind c.args.y c.loop-row.free c.loop-row.row (omega (arith, same, test))) (puts_on {a = label_of_some column c.args.y c.loop-row.free here} c.put_water_at-free.ensures.puts (rw c.put_water_at-free.ensures.value at h))),
    )

pub returns : goal.returns
returns g c =
    let same = c.rows-rows.ensures.value in
    let test = c.loop-row-test.false in
    puts_same _ (labels_all c.args.column.now c.args.kind c.args.y) (c.loop-row.invariant.1 _ (puts_same _ (labels_end c.args.column.now c.args.kind c.args.y c.loop-row.free c.loop-row.row (omega (arith, same, test))) (puts_nothing _)))
