use Rattle.std.proofs.Common.{◌≡◌, ◌<◌, false, arith}
use Rattle.hw_model.specs.Walk.{table_count}
use Rattle.hw_rules.proofs.Walks.{few, answered}
use Rattle.hw_rules.proofs.walking.walk_from.Goals as goal

pub returns : goal.returns
returns c =
    let f = c.args.flat.now in
    let all : c.loop.counter ≡ c.args.budget = omega arith in
    let lt : c.args.budget < table_count f = omega (arith, few f c.loop.current c.loop.invariant.listed, c.loop.invariant.here) in
    answered f c.args.budget false c.loop.best c.loop.most c.outcome-2.result (lt, rw all at c.loop.invariant.best) c.outcome-2.ensures
