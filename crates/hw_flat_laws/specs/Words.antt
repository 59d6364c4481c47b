-- Texts cut into lines and words, and words found in a list, worked out by hand.
use Rattle.std.specs.Prelude.{◌≡◌, ℕ, List, [], ◌∷◌, Some, None, true, false, codes, bytes_eq, slice_get}
use Rattle.hw_text.specs.Parts.{parts_of, words_of, first_part, at_end}
use Rattle.hw_lexicon.specs.Words.{words_in, find_from}

-- two lines, the second one empty, and a byte after them
abbrev pub three_lines : List (List ℕ)
three_lines = parts_of 10 (codes "a  b\n\nc")

-- two words
abbrev pub directions : List (List ℕ)
directions = words_in (codes "outgoing incoming")

-- lines, words and places of words
pub record WordRows : Type 0 where
  -- the first line
  pub first_line : first_part three_lines ≡ Some (codes "a  b", [] ∷ codes "c" ∷ [])
  -- two lines are left after it
  pub not_at_end : at_end ([] ∷ codes "c" ∷ []) ≡ false
  -- two line feeds in a row end an empty line
  pub empty_line : first_part ([] ∷ codes "c" ∷ []) ≡ Some ([], codes "c" ∷ [])
  -- the last bytes have no end
  pub no_line_left : first_part (codes "c" ∷ []) ≡ None
  -- an empty line is the empty text
  pub empty_text : bytes_eq [] [] ≡ true
  -- two spaces part an empty word
  pub two_spaces : words_of (codes "a  b") ≡ codes "a" ∷ [] ∷ codes "b" ∷ []
  -- an empty line has one word
  pub one_word : words_of [] ≡ [] ∷ []
  -- a word after a space at the end
  pub space_at_the_end : words_of (codes "a ") ≡ codes "a" ∷ [] ∷ []
  -- parts round a colon
  pub parts_round_colons : parts_of 58 (codes "0:2:3") ≡ codes "0" ∷ codes "2" ∷ codes "3" ∷ []
  -- the first word
  pub outgoing_found : find_from 0 (codes "outgoing") directions ≡ Some 0
  -- the second
  pub incoming_found : find_from 0 (codes "incoming") directions ≡ Some 1
  -- the empty word
  pub empty_missed : find_from 0 (codes "") directions ≡ None
  -- a part of a word
  pub part_missed : find_from 0 (codes "out") directions ≡ None
  -- a space after it
  pub space_missed : find_from 0 (codes "outgoing ") directions ≡ None
  -- both words
  pub both_missed : find_from 0 (codes "outgoing incoming") directions ≡ None
  -- a capital
  pub capital_missed : find_from 0 (codes "Incoming") directions ≡ None
  -- the word at place 0
  pub first_word : slice_get directions 0 ≡ Some (codes "outgoing")
  -- the word at place 1
  pub second_word : slice_get directions 1 ≡ Some (codes "incoming")
  -- of no words none is found
  pub none_of_none : find_from 0 [] (words_in []) ≡ None
  -- a word alone
  pub alone : find_from 0 (codes "one") (words_in (codes "one")) ≡ Some 0
