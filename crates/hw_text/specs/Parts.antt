-- A text, part by part.
use Rattle.std.specs.Prelude.{ℕ, ◌==◌, List, [], ◌∷◌, ◌++◌, Option, Some, None, Bool, true, false, not}
use Rattle.std.specs.List.{slice_split, list_all, join_with_byte}
use Rattle.std.proofs.Common.{Bor}

-- the parts of a text with this byte between them
abbrev pub parts_of : ℕ → List ℕ → List (List ℕ)
parts_of at bytes = slice_split (λ b. b == at) bytes

-- the first part and those after it, where one is after it
abbrev pub first_part : List (List ℕ) → Option (List ℕ × List (List ℕ))
first_part [] = None
first_part (x ∷ []) = None
first_part (x ∷ y ∷ more) = Some (x, y ∷ more)

-- the words of a line: between two spaces in a row is an empty word, which is neither a number nor a keyword
abbrev pub words_of : List ℕ → List (List ℕ)
words_of line = parts_of 32 line

-- the parts of what is left of a text, where anything is
abbrev pub left_parts : ℕ → Option (Bor (List ℕ)) → List (List ℕ)
left_parts at None = []
left_parts at (Some x) = parts_of at x.now

-- no byte stands after the last line feed
abbrev pub at_end : List (List ℕ) → Bool
at_end ([] ∷ []) = true
at_end _ = false

-- no byte of the text is this one
abbrev pub lacks : ℕ → List ℕ → Bool
lacks at bytes = list_all (λ b. not (b == at)) bytes

-- the words with a space between two
abbrev pub spaced : List (List ℕ) → List ℕ
spaced words = join_with_byte 32 words

-- the lines, each with a line feed after it
abbrev pub ended_lines : List (List ℕ) → List ℕ
ended_lines [] = []
ended_lines (line ∷ lines) = line ++ 10 ∷ ended_lines lines

-- one more item in front, where it and all after it could be read
abbrev pub put_first : {A : Type 0} → Option A → Option (List A) → Option (List A)
put_first None more = None
put_first (Some x) None = None
put_first (Some x) (Some xs) = Some (x ∷ xs)
