-- The pieces of a text: words, names and numbers, one after another.
use Rattle.std.specs.Prelude.{ℕ, List, [], ◌∷◌, ◌++◌, decimal}
use Rattle.hw_chart_svg.specs.Names.{escaped}
use Rattle.hw_chart_svg.specs.Numbers.{clock, height_text, metres, tonnes_label}
use Rattle.hw_chart_svg.specs.declared.piece.Piece.{Piece}
use Rattle.hw_chart_svg.specs.declared.piece.Piece.TheVariants.{Word, Name, Number, Tenths, Metres, Height, Clock}

abbrev pub picture_piece_text : Piece → List ℕ
picture_piece_text (Word word) = word.now
picture_piece_text (Name name) = escaped name.now
picture_piece_text (Number n) = decimal n
picture_piece_text (Tenths amount) = tonnes_label amount
picture_piece_text (Metres length) = metres length
picture_piece_text (Height height) = height_text height
picture_piece_text (Clock minutes) = clock minutes

abbrev pub picture_pieces_text : List Piece → List ℕ
picture_pieces_text [] = []
picture_pieces_text (piece ∷ pieces) = picture_piece_text piece ++ picture_pieces_text pieces
