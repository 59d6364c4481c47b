-- The lines of hints. Names come last.
use Rattle.std.specs.Prelude.{ℕ, List, [], ◌∷◌, ◌++◌, codes, decimal}
use Rattle.std.specs.List.{concat}
use Rattle.hw_port_lint.specs.declared.doubt.Doubt.{Doubt}
use Rattle.hw_port_lint.specs.declared.pieces.Piece.{Piece}
use Rattle.hw_port_lint.specs.declared.pieces.Piece.TheVariants.{Word, Number}

-- a word or a number
abbrev pub hint_piece_text : Piece → List ℕ
hint_piece_text (Word word) = word.now
hint_piece_text (Number n) = decimal n

abbrev pub hint_pieces_text : List Piece → List ℕ
hint_pieces_text [] = []
hint_pieces_text (piece ∷ pieces) = hint_piece_text piece ++ hint_pieces_text pieces

-- where the reader of JSON stopped
unfoldable pub break_line : ℕ → ℕ → List ℕ
break_line line column = concat (codes "hint instance line " ∷ decimal line ∷ codes " column " ∷ decimal column ∷ codes "\n" ∷ [])

-- the name of an item in which the fault is
unfoldable pub item_name_line : List ℕ → ℕ → List ℕ → List ℕ
item_name_line kind number name = concat (codes "hint " ∷ kind ∷ codes " " ∷ decimal number ∷ codes " " ∷ name ∷ codes "\n" ∷ [])

-- a member of a list's item whose value looks like one of another unit: the list, the item's number, the member, the value, the unit, the name of the item
unfoldable pub unit_line : List ℕ → ℕ → List ℕ → ℕ → List ℕ → List ℕ → List ℕ
unit_line items number member value unit name = concat (codes "hint " ∷ items ∷ decimal number ∷ member ∷ decimal value ∷ unit ∷ name ∷ codes "\n" ∷ [])

abbrev pub doubt_line : Doubt → List ℕ → List ℕ
doubt_line d name = unit_line d.items.now d.number d.member.now d.value d.unit.now name

-- a ship makes its last pass after the table: the first slot that the table lacks, the last one that the ship needs, its name
unfoldable pub short_line : ℕ → ℕ → List ℕ → List ℕ
short_line first last name = concat (codes "hint tides lack " ∷ decimal first ∷ codes " to " ∷ decimal last ∷ codes " " ∷ name ∷ codes "\n" ∷ [])

-- two waters of one kind, by their slots, and the minutes between them
unfoldable pub clock_line : ℕ → ℕ → ℕ → List ℕ
clock_line first second minutes = concat (codes "hint tides waters " ∷ decimal first ∷ codes " and " ∷ decimal second ∷ codes " minutes " ∷ decimal minutes ∷ codes "\n" ∷ [])
