use Rattle.std.proofs.Common.{◌≡◌, ℕ, ◌+◌, ◌*◌, if◌then◌else◌, drop, map, sum_by, get_or}
use Rattle.hw_price_laws.specs.Tolls.{block_charge, lies_in}
use Rattle.hw_price_laws.specs.Computed.{takes}
use Rattle.hw_price_tests.proofs.charging.charge_blocks.Given as goal

abbrev pub invariant-loop-block : goal.invariant-loop-block
invariant-loop-block l = (k : ℕ) → get_or l.costs k 0 + (if lies_in l.span.range.low l.span.range.high k then l.span.price * sum_by (takes l.span.range.ship k) (map block_charge (drop l.block-index l.blocks)) else 0) ≡ get_or l.initial.costs k 0 + (if lies_in l.span.range.low l.span.range.high k then l.span.price * sum_by (takes l.span.range.ship k) (map block_charge l.blocks) else 0)
