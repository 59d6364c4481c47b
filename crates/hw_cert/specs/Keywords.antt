-- The keywords of a certificate.
use Rattle.std.specs.Prelude.{ℕ, List, [], ◌∷◌, codes}

-- the words that lines begin with, in the order of the forms, and that of the header
abbrev pub key_words : List (List ℕ)
key_words = codes "t" ∷ codes "e" ∷ codes "o" ∷ codes "g" ∷ codes "l" ∷ codes "d" ∷ codes "n" ∷ codes "u" ∷ codes "y" ∷ codes "p" ∷ codes "b" ∷ codes "cert" ∷ []
