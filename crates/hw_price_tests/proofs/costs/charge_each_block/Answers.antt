use Rattle.std.proofs.Common.{◌≡◌, ◌+◌, ◌∷◌, ap, sym, ◌∙◌, arith, drop, map}
use Rattle.hw_price_laws.specs.Tolls.{block_charge}
use Rattle.hw_price_tests.proofs.Charged.{blocks_left, charge_left}
use Rattle.hw_price_tests.proofs.costs.charge_each_block.Goals as goal

pub loop-block-preserved : goal.loop-block-preserved
loop-block-preserved c =
    let split : map block_charge (drop c.loop-block.block-index c.args.blocks.now) ≡ c.charge_of.result ∷ map block_charge (drop (c.loop-block.block-index + 1) c.args.blocks.now) =
    blocks_left c.args.blocks.now c.loop-block.block-index (record { ship = 0; low = 0; high = 0 }) c.loop-block-test.true ∙ ap (λ x. x ∷ map block_charge (drop (c.loop-block.block-index + 1) c.args.blocks.now)) (sym c.charge_of.ensures.value)
    in
    record {
      each_slot = λ ship. c.charge_row.ensures.charged.each_slot ship ∙ c.loop-block.invariant.each_slot ship;
      told = λ ship slot.
          omega (
            arith,
            charge_left c.args.price ship slot c.charge_of.result (map block_charge (drop (c.loop-block.block-index + 1) c.args.blocks.now)) (map block_charge (drop c.loop-block.block-index c.args.blocks.now)) split,
            c.charge_row.ensures.charged.paid ship slot,
            c.loop-block.invariant.told ship slot,
          );
    }
