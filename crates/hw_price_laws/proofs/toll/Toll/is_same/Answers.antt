use Rattle.std.proofs.Common.{rules, ◌≡◌}
use Rattle.std.specs.Bool.{Decides}
use Rattle.std.proofs.lemmas.Slice.Eq.{slice_eq-Decides}
use Rattle.hw_price_laws.specs.contracts.toll.BlockPartialEq.TheImpl.{eq-value}
use Rattle.hw_price_laws.specs.declared.toll.Block.{Block}
use Rattle.hw_price_laws.proofs.toll.Toll.is_same.Goals as goal

-- two blocks are the same exactly where `==` says so
decides : (a b : Block) → Decides (eq-value.it a b) (a ≡ b)
decides a b = search rules

pub returns-in-Narrows-Narrows : goal.returns-in-Narrows-Narrows
returns-in-Narrows-Narrows c =
    let same = slice_eq-Decides decides c.as_slice.result.now c.as_slice-in-Narrows-Narrows.result.now c.eq.result c.eq.ensures in
    search rules
