use Rattle.std.proofs.Common.{arith}
use Rattle.hw_chart.proofs.Ranks.{rank_small}
use Rattle.hw_chart_flat.proofs.rows.planned_row.Goals as goal

pub overflow_cast-result : goal.overflow_cast-result
overflow_cast-result c =
    let ranked = rw c.as_slice.ensures.value at c.rank.ensures in
    let small = rank_small c.args.table.now c.args.ship in
    omega (arith, ranked, small)

pub returns-clause-few : goal.returns-clause-few
returns-clause-few c =
    let ranked = rw c.as_slice.ensures.value at c.rank.ensures in
    let small = rank_small c.args.table.now c.args.ship in
    omega (arith, ranked, small)
