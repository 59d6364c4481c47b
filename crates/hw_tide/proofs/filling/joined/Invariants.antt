use Rattle.std.proofs.Common.{◌≡◌, ◌++◌, drop, All}
use Rattle.std.specs.List.{flat_map}
use Rattle.hw_tide.specs.Twelfths.{InLimits}
use Rattle.hw_tide.proofs.filling.joined.Given as goal

abbrev pub invariant-loop-level : goal.invariant-loop-level
invariant-loop-level l = record {
  told : l.heights.items ++ flat_map (λ l. l.heights) (drop l.level-index l.levels) ≡ flat_map (λ l. l.heights) l.levels;
  small : All InLimits l.heights.items;
}
