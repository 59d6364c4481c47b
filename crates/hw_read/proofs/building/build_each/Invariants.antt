use Rattle.std.proofs.Common.{◌≡◌, ◌++◌, drop}
use Rattle.serde_json.specs.View.{items_view}
use Rattle.hw_read.specs.Parts.{each_part}
use Rattle.hw_read.proofs.building.build_each.Given as goal

abbrev pub invariant-loop-value : goal.invariant-loop-value
invariant-loop-value g l = l.all.items ++ each_part g.T.Part.part (items_view (drop l.value-index l.items)) ≡ each_part g.T.Part.part (items_view l.items)
