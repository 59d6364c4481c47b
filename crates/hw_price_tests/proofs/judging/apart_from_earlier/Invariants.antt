use Rattle.std.proofs.Common.{◌≡◌, ℕ, ◌<◌, get_or}
use Rattle.hw_price_laws.specs.declared.toll.Block.{Block}
use Rattle.hw_price_laws.specs.Tolls.{Apart}
use Rattle.hw_price_tests.proofs.judging.apart_from_earlier.Given as goal

abbrev pub invariant-loop-first : goal.invariant-loop-first
invariant-loop-first l = record {
  ships : l.room.ships ≡ l.flat.ships;
  slots : l.room.slots ≡ l.flat.slots;
  told : (k : ℕ) (d : Block) → k < l.first-index → Apart l.flat (get_or l.earlier k d) l.block;
}
