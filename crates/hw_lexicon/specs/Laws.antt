-- Finding a word and taking the word at a place are inverse.
use Rattle.std.specs.Prelude.{◌≡◌, ◌↔◌, ℕ, List, Some, None, IsTrue}
use Rattle.std.specs.List.{slice_get}
use Rattle.hw_lexicon.specs.Words.{find_from, all_differ}

-- where the words differ, each is found at its own place
abbrev pub FindsItsWord : Type 0
FindsItsWord = (ws : List (List ℕ)) (i : ℕ) (w : List ℕ) → IsTrue (all_differ ws) → slice_get ws i ≡ Some w → find_from 0 w ws ≡ Some i

-- what is found at a place is the word there
abbrev pub IsWordFound : Type 0
IsWordFound = (ws : List (List ℕ)) (i : ℕ) (w : List ℕ) → find_from 0 w ws ≡ Some i → slice_get ws i ≡ Some w

-- nothing is found exactly where no word equals it
abbrev pub MissesAbsentWords : Type 0
MissesAbsentWords = (ws : List (List ℕ)) (w : List ℕ) → (find_from 0 w ws ≡ None) ↔ ((i : ℕ) → slice_get ws i ≡ Some w → ⊥)
