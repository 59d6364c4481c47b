-- The ranges of the ships in the branches that wait.
use Rattle.std.specs.Prelude.{ℕ, ◌-◌, ◌<◌, ◌≤◌, List, [], ◌∷◌, length, slice_set, slice_index_or}
use Rattle.hw_model.specs.declared.shape.Shape.{Shape}
use Rattle.hw_split_text.specs.declared.node.Node.{Node}
use Rattle.hw_split_text.specs.declared.node.Node.TheVariants.{Fork, Part}
use Rattle.hw_split_text.specs.Splits.{Branch, branch_room}

-- the lowest and the highest slot of each ship
abbrev pub ShipRanges : Type 0
ShipRanges = List (ℕ × ℕ)

-- the ranges in a branch
abbrev pub ranges_of : Shape → Branch → ShipRanges
ranges_of shape branch = (branch_room shape branch).ranges

-- the range of the ship ends before the slot
abbrev pub ended_before : ℕ → ℕ → ShipRanges → ShipRanges
ended_before ship slot ranges = slice_set ranges ship ((slice_index_or ranges ship (0, 0)).0, slot - 1)

-- the range of the ship begins at the slot
abbrev pub begun_at : ℕ → ℕ → ShipRanges → ShipRanges
begun_at ship slot ranges = slice_set ranges ship (slot, (slice_index_or ranges ship (0, 0)).1)

-- the ranges in the branches that wait, once this node was the next
abbrev pub open_after : Node → List ShipRanges → List ShipRanges
open_after node [] = []
open_after (Fork ship slot) (ranges ∷ stack) = ended_before ship slot ranges ∷ begun_at ship slot ranges ∷ stack
open_after Part (ranges ∷ stack) = stack

-- the node names a ship of the first ranges, and no slot 0
abbrev pub NamesRange : Node → List ShipRanges → Type 0
NamesRange node [] = Unit {0}
NamesRange (Fork ship slot) (ranges ∷ stack) = (ship < length ranges) × (1 ≤ slot)
NamesRange Part (ranges ∷ stack) = Unit {0}
