-- The lines of the report. Names come last.
use Rattle.std.specs.Prelude.{ℕ, ◌*◌, ℤ, Bool, List, [], ◌∷◌, ◌++◌, codes, decimal, if◌then◌else◌}
use Rattle.std.specs.Fmt.{signed_decimal}
use Rattle.std.specs.List.{concat}
use Rattle.hw_port_windows.specs.declared.piece.Piece.{Piece}
use Rattle.hw_port_windows.specs.declared.piece.Piece.TheVariants.{Word, Number, Draft}
use Rattle.hw_port_windows.specs.declared.run.Run.{Run}

-- a word, a number, or a draft, which may be below 0
abbrev pub window_piece_text : Piece → List ℕ
window_piece_text (Word word) = word.now
window_piece_text (Number n) = decimal n
window_piece_text (Draft z) = signed_decimal z

abbrev pub window_pieces_text : List Piece → List ℕ
window_pieces_text [] = []
window_pieces_text (piece ∷ pieces) = window_piece_text piece ++ window_pieces_text pieces

-- the line of a ship: its number, from 0, and its name
unfoldable pub window_ship_line : ℕ → List ℕ → List ℕ
window_ship_line number name = concat (codes "ship " ∷ decimal number ∷ codes " " ∷ name ∷ codes "\n" ∷ [])

-- somewhere in a run the ship sails with its full draft, or nowhere
abbrev pub full_word : Bool → List ℕ
full_word full = if full then codes "full\n" else codes "short\n"

-- the slots in which a ship may sail, each with the minute in which it begins, and with which drafts
unfoldable pub sails_line : Run → ℕ → ℤ → ℤ → Bool → List ℕ
sails_line run minutes least greatest full = concat (codes "from " ∷ decimal run.first ∷ codes " " ∷ decimal (run.first * minutes) ∷ codes " to " ∷ decimal run.last ∷ codes " " ∷ decimal (run.last * minutes) ∷ codes " draft " ∷ signed_decimal least ∷ codes " " ∷ signed_decimal greatest ∷ codes " " ∷ full_word full ∷ [])

-- the slots in which something is closed for the ship
unfoldable pub closed_line : Run → List ℕ
closed_line run = concat (codes "closed " ∷ decimal run.first ∷ codes " " ∷ decimal run.last ∷ codes "\n" ∷ [])

-- the slots in which the water allows less than the light draft: that draft, the most that is allowed, and where this is
unfoldable pub shallow_line : Run → ℤ → ℤ → List ℕ → List ℕ
shallow_line run light at_most name = concat (codes "shallow " ∷ decimal run.first ∷ codes " " ∷ decimal run.last ∷ codes " needs " ∷ signed_decimal light ∷ codes " at most " ∷ signed_decimal at_most ∷ codes " " ∷ name ∷ codes "\n" ∷ [])

-- the slots in which a pass lies outside the tide table: up to which slot that must go, and where the last pass is
unfoldable pub tides_line : Run → ℕ → List ℕ → List ℕ
tides_line run needed name = concat (codes "tides end " ∷ decimal run.first ∷ codes " " ∷ decimal run.last ∷ codes " needs slot " ∷ decimal needed ∷ codes " " ∷ name ∷ codes "\n" ∷ [])
