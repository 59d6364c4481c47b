use Rattle.std.proofs.Common.{◌+◌, ◌∷◌, ap, sym, ◌∙◌, get_or, drop, map}
use Rattle.hw_price_laws.specs.Tolls.{block_charge}
use Rattle.hw_price_tests.proofs.Charged.{charge_step, costs_small, blocks_small, few_blocks, blocks_left}
use Rattle.hw_price_tests.proofs.charging.charge_blocks.Goals as goal

pub charge_one-requires-clause-small : goal.charge_one-requires-clause-small
charge_one-requires-clause-small c = costs_small c.args.span.range.low c.args.span.range.high c.args.span.price c.args.span.range.ship (map block_charge c.args.blocks.now) (map block_charge (drop c.loop-block.block-index c.args.blocks.now)) c.args.costs.now c.loop-block.costs c.requires.small_price (few_blocks c.args.blocks.now c.requires.few) (blocks_small c.args.blocks.now) c.loop-block.auto.costs c.requires.small c.loop-block.invariant

pub loop-block-preserved : goal.loop-block-preserved
loop-block-preserved c = λ k.
    charge_step c.args.span.range.low c.args.span.range.high c.args.span.price c.args.span.range.ship k (get_or c.loop-block.costs k 0) (get_or c.charge_one.new.costs k 0) _ c.charge_of.result (map block_charge (drop (c.loop-block.block-index + 1) c.args.blocks.now)) (map block_charge (drop c.loop-block.block-index c.args.blocks.now))
    (blocks_left c.args.blocks.now c.loop-block.block-index (record { ship = 0; low = 0; high = 0 }) c.loop-block-test.true ∙ ap (λ x. x ∷ map block_charge (drop (c.loop-block.block-index + 1) c.args.blocks.now)) (sym c.charge_of.ensures.value))
    (c.charge_one.ensures.value k) (c.loop-block.invariant k)
