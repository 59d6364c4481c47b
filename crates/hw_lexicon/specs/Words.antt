-- The words of a text, and the place of a word in a list.
use Rattle.std.specs.Prelude.{ℕ, ◌+◌, ◌&&◌, List, [], ◌∷◌, length, Bool, true, not, nat_lt, bytes_eq, Option, Some, None, is_some, if◌then◌else◌}
use Rattle.std.specs.List.{list_all}
use Rattle.hw_text.specs.Parts.{words_of}

-- the words, one space between two of them; the empty text has none
abbrev pub words_in : List ℕ → List (List ℕ)
words_in [] = []
words_in (b ∷ bs) = words_of (b ∷ bs)

-- the place of the first word equal to this one, where the list begins at a place
abbrev pub find_from : ℕ → List ℕ → List (List ℕ) → Option ℕ
find_from n word [] = None
find_from n word (w ∷ ws) = if bytes_eq w word then Some n else find_from (n + 1) word ws

-- no word is found among the later ones
abbrev pub all_differ : List (List ℕ) → Bool
all_differ [] = true
all_differ (w ∷ ws) = not (is_some (find_from 0 w ws)) && all_differ ws

-- each word has a byte and all differ: a test that the prover computes at each constant
abbrev pub is_lexicon : List ℕ → Bool
is_lexicon text = list_all (λ w. nat_lt 0 (length w)) (words_in text) && all_differ (words_in text)
