use Rattle.std.proofs.Common.{◌≡◌, ◌+◌, ◌-◌, ◌<◌, length, get_or, arith}
use Rattle.std.proofs.lemmas.Grind.{common_steps}
use Rattle.std.proofs.lemmas.List.{length-set}
use Rattle.hw_model_laws.proofs.Rank.{rank_lt}
use Rattle.hw_rules.proofs.Rank.{one_more, wrapped}
use Rattle.hw_rules.proofs.lists.advance.Goals as goal

pub returns-then-list-left-clause-rank : goal.returns-then-list-left-clause-rank
returns-then-list-left-clause-rank c = one_more c.args.slots c.loop-left.list c.loop-left.left _ c.loop-left-test.true c.loop-left.invariant.inside c.loop-left.invariant.rank

pub loop-left-preserved : goal.loop-left-preserved
loop-left-preserved c =
    let place : c.loop-left.left - 1 < length c.loop-left.list = omega (arith, c.loop-left-test.true, c.loop-left.invariant.inside) in
    let last : get_or c.loop-left.list (c.loop-left.left - 1) 0 + 1 ≡ c.args.slots = omega (arith, c.if-list-left.false, c.loop-left.invariant.below (c.loop-left.left - 1) 0 place) in
    record {
      inside = omega (arith, length-set c.loop-left.list (c.loop-left.left - 1) 0);
      below = grind (arith, common_steps);
      rank = wrapped c.args.slots c.loop-left.list c.loop-left.left _ c.loop-left-test.true c.loop-left.invariant.inside last c.loop-left.invariant.rank;
    }

pub returns-clause-rank : goal.returns-clause-rank
returns-clause-rank c =
    let all : length c.loop-left.list - c.loop-left.left ≡ length c.args.list.now = omega arith in
    let r = rw all at c.loop-left.invariant.rank in
    omega (arith, r, rank_lt c.args.slots c.args.list.now c.requires.below)
