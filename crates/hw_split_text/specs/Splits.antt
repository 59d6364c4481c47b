-- Splits: the branches of their nodes, their parts, and which nodes make a split of a problem.
use Rattle.std.specs.Prelude.{◌≡◌, ℕ, ◌-◌, ◌==◌, Bool, true, false, ◌&&◌, nat_lt, nat_le, if◌then◌else◌, List, [], ◌∷◌, ◌++◌, Option, None, slice_get, slice_index_or, IsTrue}
use Rattle.std.specs.List.{list_all}
use Rattle.hw_model.specs.declared.lit.Lit.{Lit}
use Rattle.hw_model.specs.declared.lit.Lit.TheVariants.{AtOrAfter, Before}
use Rattle.hw_model.specs.declared.shape.Shape.{Shape}
use Rattle.hw_model.specs.Lits.{lit_fits, lit_holds}
use Rattle.hw_model.specs.Narrowing.{cut}
use Rattle.hw_model.specs.Rooms.{RoomModel, whole_room}
use Rattle.hw_split_text.specs.declared.node.Node.{Node}
use Rattle.hw_split_text.specs.declared.node.Node.TheVariants.{Fork, Part}

-- ---- branches and parts

-- a branch is the list of its literals, from the root of the tree on
abbrev pub Branch : Type 0
Branch = List Lit

-- the branches that wait for their nodes, the next one first, once this node was the next
abbrev pub waiting_after : Node → List Branch → List Branch
waiting_after node [] = []
waiting_after (Fork ship slot) (branch ∷ waiting) = (branch ++ Before ship slot ∷ []) ∷ (branch ++ AtOrAfter ship slot ∷ []) ∷ waiting
waiting_after Part (branch ∷ waiting) = waiting

-- the branch that this node makes a part, if it does
abbrev pub part_made : Node → List Branch → List Branch
part_made node [] = []
part_made (Fork ship slot) (branch ∷ waiting) = []
part_made Part (branch ∷ waiting) = branch ∷ []

-- the parts that these nodes make of the branches that wait
abbrev pub parts_from : List Branch → List Node → List Branch
parts_from waiting [] = []
parts_from waiting (node ∷ nodes) = part_made node waiting ++ parts_from (waiting_after node waiting) nodes

-- the parts in the order of their nodes. At the root no literal is given
abbrev pub split_parts : List Node → List Branch
split_parts nodes = parts_from ([] ∷ []) nodes

-- the part of this number, from 1 on
abbrev pub part_at : List Node → ℕ → Option Branch
part_at nodes number = if number == 0 then None else slice_get (split_parts nodes) (number - 1)

abbrev pub is_part : Node → Bool
is_part (Fork ship slot) = false
is_part Part = true

-- all literals of the branch are true of a timetable
abbrev pub branch_holds : List ℕ → Branch → Bool
branch_holds table branch = list_all (lit_holds table) branch

-- ---- splits of a problem

-- a room cut by each of the literals in turn
abbrev pub cut_by : List Lit → RoomModel → RoomModel
cut_by [] room = room
cut_by (lit ∷ lits) room = cut_by lits (cut lit room)

-- the room of a branch: the whole one, cut by the branch's literals
abbrev pub branch_room : Shape → Branch → RoomModel
branch_room shape branch = cut_by branch (whole_room shape)

-- both sides of the slot have slots of the ship's range
abbrev pub is_inside : List (ℕ × ℕ) → ℕ → ℕ → Bool
is_inside ranges ship slot = nat_lt (slice_index_or ranges ship (0, 0)).0 slot && nat_le slot (slice_index_or ranges ship (0, 0)).1

-- the ship and the slot are there, and the slot is inside the ship's range
abbrev pub fork_fits : Shape → List (ℕ × ℕ) → ℕ → ℕ → Bool
fork_fits shape ranges ship slot = lit_fits shape (AtOrAfter ship slot) && is_inside ranges ship slot

-- the node may be that of a branch in which the ships have these ranges
abbrev pub node_fits : Shape → List (ℕ × ℕ) → Node → Bool
node_fits shape ranges (Fork ship slot) = fork_fits shape ranges ship slot
node_fits shape ranges Part = true

-- a branch waits for a node, and this one may be its
abbrev pub NextFits : Shape → List Branch → Node → Type 0
NextFits shape [] node = ⊥
NextFits shape (branch ∷ waiting) node = IsTrue (node_fits shape (branch_room shape branch).ranges node)

-- these are the nodes for which the branches wait, and no more
abbrev pub Completes : Shape → List Branch → List Node → Type 0
Completes shape waiting [] = waiting ≡ []
Completes shape waiting (node ∷ nodes) = NextFits shape waiting node × Completes shape (waiting_after node waiting) nodes

-- the nodes make a split of a problem of this shape
abbrev pub IsSplit : Shape → List Node → Type 0
IsSplit shape nodes = Completes shape ([] ∷ []) nodes
