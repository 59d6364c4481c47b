use Rattle.std.proofs.Common.{◌≡◌, ℕ, ◌<◌, get_or}
use Rattle.hw_price_laws.specs.declared.toll.Block.{Block}
use Rattle.hw_price_laws.specs.Tolls.{Apart}
use Rattle.hw_price_tests.proofs.judging.all_apart.Given as goal

abbrev pub invariant-loop-place : goal.invariant-loop-place
invariant-loop-place l = record {
  ships : l.room.ships ≡ l.flat.ships;
  slots : l.room.slots ≡ l.flat.slots;
  told : (i j : ℕ) (d : Block) → i < j → j < l.place → Apart l.flat (get_or l.blocks i d) (get_or l.blocks j d);
}
