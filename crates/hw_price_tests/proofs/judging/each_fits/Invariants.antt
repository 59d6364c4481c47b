use Rattle.std.proofs.Common.{ℕ, ◌<◌, get_or}
use Rattle.hw_price_laws.specs.declared.toll.Block.{Block}
use Rattle.hw_price_laws.specs.Tolls.{BlockFits}
use Rattle.hw_price_tests.proofs.judging.each_fits.Given as goal

abbrev pub invariant-loop-block : goal.invariant-loop-block
invariant-loop-block l = (k : ℕ) (d : Block) → k < l.block-index → BlockFits l.flat (get_or l.blocks k d)
