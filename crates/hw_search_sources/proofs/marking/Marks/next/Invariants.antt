use Rattle.std.proofs.Common.{◌≡◌, ◌-◌, ◌≤◌, length}
use Rattle.hw_search_sources.specs.Marks.{ClearWithin, KeepsBlocks}
use Rattle.hw_search_sources.proofs.marking.Marks.next.Given as goal

abbrev pub invariant-loop-at : goal.invariant-loop-at
invariant-loop-at l = record {
  same : l.self-inside.marks.items ≡ l.fn.self;
  above : l.from ≤ l.at;
  within : l.at ≤ length l.fn.self;
  clear : ClearWithin l.fn.self l.from l.at;
  blocks : KeepsBlocks l.self-inside.marks.items l.self-inside.blocks.items;
}

abbrev pub decreases-loop-at : goal.decreases-loop-at
decreases-loop-at l = length l.fn.self - l.at
