use Rattle.std.proofs.Common.{◌≡◌, ◌≤◌, ◌∙◌, refl, ap, arith}
use Rattle.std.proofs.lemmas.List.{get_or_default}
use Rattle.hw_goal.specs.Kept.{top_at}
use Rattle.hw_goal.proofs.Greatest.{top_small}
use Rattle.hw_goal.proofs.Sums.{none, value_of, sum_small, part_of_sum, kept_set}
use Rattle.hw_goal.proofs.tops.see.Goals as goal

pub overflow_add-figures : goal.overflow_add-figures
overflow_add-figures c =
    let f = c.args.flat.now in
    omega (arith, sum_small f f.ships c.args.figures.now c.requires.kept c.shape-shape.ensures.limits.few_ships, top_small f c.args.ship c.moved-new.result c.moved-new.ensures.top)

pub returns-clause-kept : goal.returns-clause-kept
returns-clause-kept c =
    let f = c.args.flat.now in
    let items = c.args.figures.now.tops.items in
    let same : c.index-old.result.now ≡ top_at items c.args.ship = c.index-old.ensures ∙ get_or_default items c.args.ship c.index-old.result.now none (omega (arith, c.requires.ship_in, c.requires.kept.size)) in
    let part : value_of (top_at items c.args.ship) ≤ c.args.figures.now.sum = part_of_sum f f.ships c.args.figures.now c.args.ship c.requires.kept c.requires.ship_in in
    kept_set f f.ships c.args.figures.now _ c.args.ship c.moved-new.result c.requires.kept c.requires.ship_in c.moved-new.ensures.top refl (omega (arith, part, ap value_of same))
