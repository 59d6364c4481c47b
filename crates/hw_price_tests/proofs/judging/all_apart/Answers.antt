use Rattle.std.proofs.Common.{refl, arith}
use Rattle.hw_price_tests.proofs.Judged.{one_more, not_apart}
use Rattle.hw_price_tests.proofs.judging.all_apart.Goals as goal

pub loop-place-preserved : goal.loop-place-preserved
loop-place-preserved c = record {
  ships = c.apart_from_earlier.ensures.ships;
  slots = c.apart_from_earlier.ensures.slots;
  told = one_more c.args.flat.now c.args.blocks.now c.loop-place.place (record { ship = 0; low = 0; high = 0 }) c.loop-place-test.true (c.apart_from_earlier.ensures.value.0 c.if-not-apart_from_earlier.false) c.loop-place.invariant.told;
}

pub returns-then-not-apart_from_earlier : goal.returns-then-not-apart_from_earlier
returns-then-not-apart_from_earlier c = record {
  value = (
    λ t. absurd cc,
    λ pairs. absurd (not_apart c.args.flat.now c.args.blocks.now c.loop-place.place (record { ship = 0; low = 0; high = 0 }) c.apart_from_earlier.result c.loop-place-test.true c.if-not-apart_from_earlier.true c.apart_from_earlier.ensures.value pairs),
  );
}

pub returns : goal.returns
returns c = record {
  value = (
    λ t. λ i j d ij inside. c.loop-place.invariant.told i j d ij (omega (arith, inside, c.loop-place-test.false)),
    λ pairs. refl,
  );
}
