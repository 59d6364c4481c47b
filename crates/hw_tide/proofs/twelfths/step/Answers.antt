use Rattle.std.proofs.Common.{rules, w32}
use Rattle.std.proofs.lemmas.Int.{to_z-of_z}
use mir.Val.{SFits}
use Rattle.hw_tide.proofs.Steps.{within}
use Rattle.hw_tide.proofs.twelfths.step.Goals as goal

pub returns-clause-within : goal.returns-clause-within
returns-clause-within c =
    let rise = c.ranges.rise in
    let part = c.ranges.part in
    let whole = c.ranges.whole in
    let fits : SFits w32 c.quotient.result = search rules in
    let is = simp to_z-of_z at c.quotient.ensures in
    simp to_z-of_z (rw is (within c.args.rise c.args.part c.args.whole c.requires.part c.requires.below c.requires.some))
