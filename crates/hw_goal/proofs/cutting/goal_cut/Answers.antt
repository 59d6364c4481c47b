use Rattle.std.proofs.Common.{◌≡◌, ◌<◌, ◌∙◌, ap, subst, arith}
use Rattle.std.proofs.lemmas.List.{get_or_default}
use Rattle.hw_model.specs.declared.shape.Shape.{Shape}
use Rattle.hw_goal.specs.declared.tops.Top.{Top}
use Rattle.hw_goal.specs.Kept.{top_at}
use Rattle.hw_goal.specs.Calm.{CutAt}
use Rattle.hw_goal.proofs.Quieter.{here_refuted, ship_refuted, all_quiet}
use Rattle.hw_goal.proofs.Sums.{none, sum_small}
use Rattle.hw_goal.proofs.cutting.goal_cut.Goals as goal

pub returns-then-figures-best : goal.returns-then-figures-best
returns-then-figures-best c = record { found = here_refuted c.args.flat.now c.args.figures.now c.args.room.now c.requires.kept c.requires.room c.requires.seen c.args.best c.if-figures-best.true }

pub ship_cut-requires-clause-small : goal.ship_cut-requires-clause-small
ship_cut-requires-clause-small c = sum_small c.args.flat.now c.args.flat.now.ships c.args.figures.now c.requires.kept c.shape-ships.ensures.limits.few_ships

pub returns-in-Some : goal.returns-in-Some
returns-in-Some c =
    let f = c.args.flat.now in
    let items = c.args.figures.now.tops.items in
    let ship = c.loop-ship.ship in
    let ships : c.shape-ships.result.ships ≡ f.ships = ap (λ (s : Shape). s.ships) c.shape-ships.ensures.value in
    let in_ships : ship < f.ships = omega (arith, c.loop-ship-test.true, ships) in
    let same : c.index-top.result.now ≡ top_at items ship = c.index-top.ensures ∙ get_or_default items ship c.index-top.result.now none (omega (arith, in_ships, c.requires.kept.size)) in
    let P : Top → Type 0 = λ t. CutAt f c.args.best c.args.figures.now.sum ship t c.in-Some.c in
    record { found = ship_refuted f c.args.figures.now c.args.room.now c.requires.kept c.requires.room c.requires.seen c.args.best ship c.in-Some.c in_ships (subst P same c.in-Some.ensures) }

pub returns : goal.returns
returns c =
    let f = c.args.flat.now in
    let ships : c.shape-ships.result.ships ≡ f.ships = ap (λ (s : Shape). s.ships) c.shape-ships.ensures.value in
    record { found = all_quiet f c.args.figures.now c.args.room.now c.requires.kept c.requires.room c.requires.seen c.args.best c.if-figures-best.false (λ u lt. c.loop-ship.invariant u (omega (arith, lt, ships, c.loop-ship-test.false))) }
