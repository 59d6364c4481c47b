-- The text of six pieces and two more.
use Rattle.std.proofs.Common.{◌≡◌, ◌∙◌, ◌++◌, ℕ, List, [], ◌∷◌, length, refl, sym, ap, arith}
use Rattle.std.specs.Prelude.{slice_index_or}
use Rattle.std.proofs.lemmas.List.{append_assoc}
use Rattle.hw_chart_svg.specs.Pieces.{picture_piece_text, picture_pieces_text}
use Rattle.hw_chart_svg.specs.declared.piece.Piece.{Piece}

pieces_on : (xs ys : List Piece) → picture_pieces_text (xs ++ ys) ≡ picture_pieces_text xs ++ picture_pieces_text ys
pieces_on [] ys = refl
pieces_on (x ∷ xs) ys = ap (λ text. picture_piece_text x ++ text) (pieces_on xs ys) ∙ sym (append_assoc (picture_piece_text x) (picture_pieces_text xs) (picture_pieces_text ys))

abbrev six_of : Piece → List Piece → List Piece
six_of d xs = slice_index_or xs 0 d ∷ slice_index_or xs 1 d ∷ slice_index_or xs 2 d ∷ slice_index_or xs 3 d ∷ slice_index_or xs 4 d ∷ slice_index_or xs 5 d ∷ []

six_is : (d : Piece) (xs : List Piece) → length xs ≡ 6 → six_of d xs ≡ xs
six_is d [] h = absurd (omega (arith, h))
six_is d (a ∷ []) h = absurd (omega (arith, h))
six_is d (a ∷ b ∷ []) h = absurd (omega (arith, h))
six_is d (a ∷ b ∷ c ∷ []) h = absurd (omega (arith, h))
six_is d (a ∷ b ∷ c ∷ e ∷ []) h = absurd (omega (arith, h))
six_is d (a ∷ b ∷ c ∷ e ∷ f ∷ []) h = absurd (omega (arith, h))
six_is d (a ∷ b ∷ c ∷ e ∷ f ∷ g ∷ []) h = refl
six_is d (a ∷ b ∷ c ∷ e ∷ f ∷ g ∷ i ∷ more) h = absurd (omega (arith, h))

abbrev two_of : Piece → List Piece → List Piece
two_of d xs = slice_index_or xs 0 d ∷ slice_index_or xs 1 d ∷ []

two_is : (d : Piece) (xs : List Piece) → length xs ≡ 2 → two_of d xs ≡ xs
two_is d [] h = absurd (omega (arith, h))
two_is d (a ∷ []) h = absurd (omega (arith, h))
two_is d (a ∷ b ∷ []) h = refl
two_is d (a ∷ b ∷ c ∷ more) h = absurd (omega (arith, h))

pub title_on : (d : Piece) (xs ys : List Piece) (text more : List ℕ) → length xs ≡ 6 → length ys ≡ 2 → picture_pieces_text xs ≡ text → picture_pieces_text ys ≡ more → picture_pieces_text (six_of d xs ++ two_of d ys) ≡ text ++ more
title_on d xs ys text more six two title moved =
    pieces_on (six_of d xs) (two_of d ys)
    ∙ ap (λ pieces. picture_pieces_text pieces ++ picture_pieces_text (two_of d ys)) (six_is d xs six)
    ∙ ap (λ pieces. picture_pieces_text xs ++ picture_pieces_text pieces) (two_is d ys two)
    ∙ ap (λ begins. begins ++ picture_pieces_text ys) title
    ∙ ap (λ ends. text ++ ends) moved
