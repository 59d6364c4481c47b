-- The laws of splits.
use Rattle.std.specs.Prelude.{◌≡◌, ℕ, true, List, length, All, count_by, Ok}
use Rattle.hw_model.specs.declared.shape.Shape.{Shape}
use Rattle.hw_model.specs.Limits.{ShapeFits}
use Rattle.hw_model.specs.Lits.{lit_fits}
use Rattle.hw_model.specs.Rooms.{whole_room}
use Rattle.hw_split_text.specs.declared.node.Node.{Node}
use Rattle.hw_split_text.specs.Splits.{IsSplit, split_parts, branch_holds, is_part}
use Rattle.hw_split_text.specs.Rooms.{OpenInTurn, HasRoom}
use Rattle.hw_split_text.specs.Text.{split_text}
use Rattle.hw_split_text.specs.Written.{written_split}

-- the literals of exactly one part are all true of a timetable
abbrev pub OnePart : Type 0
OnePart = (shape : Shape) (nodes : List Node) (table : List ℕ) → IsSplit shape nodes → count_by (branch_holds table) (split_parts nodes) ≡ 1

-- there are as many parts as nodes that are one
abbrev pub PartsCounted : Type 0
PartsCounted = (shape : Shape) (nodes : List Node) → IsSplit shape nodes → length (split_parts nodes) ≡ count_by is_part nodes

-- the literals of a part are in range
abbrev pub LiteralsFit : Type 0
LiteralsFit = (shape : Shape) (nodes : List Node) → IsSplit shape nodes → All (All (λ lit. lit_fits shape lit ≡ true)) (split_parts nodes)

-- the literals of a part are open in turn
abbrev pub PartsOpen : Type 0
PartsOpen = (shape : Shape) (nodes : List Node) → IsSplit shape nodes → All (OpenInTurn (whole_room shape)) (split_parts nodes)

-- the room of a part is one of the shape, and holds the timetables of which the part's literals are all true
abbrev pub PartRooms : Type 0
PartRooms = (shape : Shape) (nodes : List Node) → ShapeFits shape → IsSplit shape nodes → All (HasRoom shape) (split_parts nodes)

-- a split is what its written text says
abbrev pub WrittenSplitReads : Type 0
WrittenSplitReads = (shape : Shape) (nodes : List Node) → ShapeFits shape → IsSplit shape nodes → split_text shape (written_split nodes) ≡ Ok nodes

-- a text says these nodes only if it is their written text
abbrev pub OneSplitText : Type 0
OneSplitText = (shape : Shape) (nodes : List Node) (bytes : List ℕ) → ShapeFits shape → split_text shape bytes ≡ Ok nodes → bytes ≡ written_split nodes
