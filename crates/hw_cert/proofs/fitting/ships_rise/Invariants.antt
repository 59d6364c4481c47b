use Rattle.std.proofs.Common.{◌≡◌, drop, map}
use Rattle.hw_price_laws.specs.declared.toll.Block.{Block}
use Rattle.hw_cert.specs.Fits.{ascends, rises}
use Rattle.hw_cert.proofs.fitting.ships_rise.Given as goal

abbrev pub invariant-loop-block : goal.invariant-loop-block
invariant-loop-block l = ascends l.before (map (λ (block : Block). block.ship) (drop l.block-index l.more)) ≡ rises (map (λ (block : Block). block.ship) l.blocks)
