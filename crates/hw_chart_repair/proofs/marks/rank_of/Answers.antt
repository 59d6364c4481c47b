use Rattle.std.proofs.Common.{ap, length, arith}
use Rattle.hw_chart.proofs.Ranks.{rank_small}
use Rattle.hw_chart_repair.proofs.marks.rank_of.Goals as goal

pub overflow_cast-result : goal.overflow_cast-result
overflow_cast-result c =
    let is = c.rank.ensures in
    let small = rank_small c.as_slice.result.now c.args.ship in
    let same = ap length c.as_slice.ensures.value in
    let few = c.len-few.ensures.few in
    let long = c.len-few.ensures.value in
    first_of (omega (arith, is, small, same, few, long), grind (arith, is, small, same, few, long))

pub returns-in-Some-clause-few : goal.returns-in-Some-clause-few
returns-in-Some-clause-few c =
    let is = c.rank.ensures in
    let small = rank_small c.as_slice.result.now c.args.ship in
    let same = ap length c.as_slice.ensures.value in
    let few = c.len-few.ensures.few in
    let long = c.len-few.ensures.value in
    first_of (omega (arith, is, small, same, few, long), grind (arith, is, small, same, few, long))
