-- The text of a split, over the list of its lines.
use Rattle.std.specs.Prelude.{ℕ, ◌+◌, ◌-◌, List, [], ◌∷◌, Option, Some, None, Result, Ok, codes, bytes_eq, length, if◌then◌else◌}
use Rattle.hw_lemmas.specs.Operators.{◌>>=◌}
use Rattle.hw_model.specs.declared.shape.Shape.{Shape}
use Rattle.hw_plan_texts.specs.Reading.{MalformedLine, malformed_line, formed_line, formed_line_at, only_at, ended_at}
use Rattle.hw_plan_texts.specs.Slots.{slot_form}
use Rattle.hw_text.specs.Numbers.{number_from_to}
use Rattle.hw_text.specs.Parts.{parts_of, words_of}
use Rattle.hw_split_text.specs.declared.fault.SplitWord.{SplitWord}
use Rattle.hw_split_text.specs.declared.fault.SplitWord.TheVariants as words
use Rattle.hw_split_text.specs.declared.node.Node.{Node}
use Rattle.hw_split_text.specs.declared.node.Node.TheVariants.{Fork, Part}
use Rattle.hw_split_text.specs.Splits.{Branch, fork_fits, waiting_after}
use Rattle.hw_split_text.specs.Ranges.{ShipRanges, ranges_of}

-- ---- the lines' forms

abbrev pub fork_by : Shape → ShipRanges → Option ℕ → Option ℕ → Option Node
fork_by shape ranges None slot = None
fork_by shape ranges (Some ship) None = None
fork_by shape ranges (Some ship) (Some slot) = if fork_fits shape ranges ship slot then Some (Fork ship slot) else None

abbrev pub fork_words : Shape → ShipRanges → List (List ℕ) → Option Node
fork_words shape ranges (ship ∷ slot ∷ []) = fork_by shape ranges (number_from_to 0 (shape.ships - 1) ship) (slot_form shape.slots slot)
fork_words shape ranges _ = None

abbrev pub part_words : List (List ℕ) → Option Node
part_words [] = Some Part
part_words (word ∷ words) = None

abbrev pub node_words : Shape → ShipRanges → List (List ℕ) → Option Node
node_words shape ranges [] = None
node_words shape ranges (key ∷ words) =
    if bytes_eq key (codes "s") then fork_words shape ranges words
    else if bytes_eq key (codes "p") then part_words words
    else None

-- `s SHIP SLOT` where the ships have these ranges: two branches follow, the ship before the slot, then in it or later; or `p`: a part
abbrev pub node_form : Shape → ShipRanges → List ℕ → Option Node
node_form shape ranges line = node_words shape ranges (words_of line)

-- ---- the lines of the text

-- the node on the next line, where the ships have these ranges, and the parts after the line
unfoldable pub node_at : Shape → ℕ → ShipRanges → List (List ℕ) → Result (Node × List (List ℕ)) (MalformedLine SplitWord)
node_at shape number ranges parts = do
  line ← formed_line_at number words.Node parts
  node ← formed_line number words.Node (node_form shape ranges line.0)
  Ok (node, line.1)

-- the nodes for which these branches wait, the first on the line of this number, and the parts after their lines
unfoldable pub nodes_at : Shape → ℕ → List Branch → List (List ℕ) → Result (List Node × List (List ℕ)) (MalformedLine SplitWord)
nodes_at shape number waiting [] = malformed_line number words.Node
nodes_at shape number [] (line ∷ parts) = Ok ([], line ∷ parts)
nodes_at shape number (branch ∷ waiting) (line ∷ parts) = do
  node ← node_at shape number (ranges_of shape branch) (line ∷ parts)
  more ← nodes_at shape (number + 1) (waiting_after node.0 (branch ∷ waiting)) parts
  Ok (node.0 ∷ more.0, more.1)

-- the split of the lines, or the first bad line
unfoldable pub split_of : Shape → List (List ℕ) → Result (List Node) (MalformedLine SplitWord)
split_of shape parts = do
  first ← only_at 1 words.Header (codes "split 1") parts
  read ← nodes_at shape 2 ([] ∷ []) first
  rest ← only_at (2 + length read.0) words.Tail (codes "end") read.1
  ended_at (3 + length read.0) words.Tail read.0 rest

-- what a text says: the nodes of a split, or the first line that isn't of the form demanded at its place
abbrev pub split_text : Shape → List ℕ → Result (List Node) (MalformedLine SplitWord)
split_text shape bytes = split_of shape (parts_of 10 bytes)
