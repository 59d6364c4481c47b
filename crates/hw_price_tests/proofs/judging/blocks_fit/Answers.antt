use Rattle.std.proofs.Common.{refl, arith}
use Rattle.hw_price_tests.proofs.Judged.{not_empty}
use Rattle.hw_price_tests.proofs.judging.blocks_fit.Goals as goal

pub returns : goal.returns
returns c = record {
  value = (
    λ t. record {
      some_block = not_empty _ c.is_empty.result c.is_empty.ensures c.if-is_empty.false;
      few_blocks = omega (arith, c.if-blocks-gt-MOST_BLOCKS.false);
      each_block = c.if-not-each_fits.ensures.value.0 refl;
      apart = c.all_apart.ensures.value.0 t;
    },
    λ h. c.all_apart.ensures.value.1 h.apart,
  );
}
