use Rattle.std.proofs.Common.{◌∙◌, arith}
use Rattle.hw_goal.proofs.Greatest.{top_value, within_row}
use Rattle.hw_goal.proofs.widening.current.Goals as goal

pub returns-then-top-high-clause-value : goal.returns-then-top-high-clause-value
returns-then-top-high-clause-value c =
    top_value c.args.flat.now c.args.ship _ _ c.args.top c.requires.top (c.if-top-low.true ∙ c.low-low.ensures.value) (c.if-top-high.true ∙ c.high-high.ensures.value)

pub returns-clause-row : goal.returns-clause-row
returns-clause-row c =
    let row = within_row c.args.flat.now c.args.ship c.low-low.result c.high-high.result c.args.top c.requires.top (omega (arith, c.high-high.ensures.value, c.high-high.ensures.in_slots, c.requires.slots)) in
    omega (arith, row, c.greatest_value.ensures.value)
