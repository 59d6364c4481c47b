-- The pieces of a line: words and numbers, one after another.
use Rattle.std.specs.Prelude.{ℕ, List, [], ◌∷◌, ◌++◌, decimal}
use Rattle.hw_chart_svg.specs.Numbers.{tonnes_label}
use Rattle.hw_report.specs.declared.piece.Piece.{Piece}
use Rattle.hw_report.specs.declared.piece.Piece.TheVariants.{Word, Number, Tonnes}

-- the text of a word, a number or a cargo in tonnes
abbrev pub piece_text : Piece → List ℕ
piece_text (Word word) = word.now
piece_text (Number n) = decimal n
piece_text (Tonnes c) = tonnes_label c

-- the texts of pieces, one after another
abbrev pub pieces_text : List Piece → List ℕ
pieces_text [] = []
pieces_text (piece ∷ pieces) = piece_text piece ++ pieces_text pieces
