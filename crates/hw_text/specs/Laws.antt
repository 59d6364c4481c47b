-- What is written reads back, and nothing else reads so.
use Rattle.std.specs.Prelude.{◌≡◌, ℕ, ℤ, pos, neg_ℤ, ◌<◌, ◌≤◌, ◌≤ℤ◌, ◌^◌, List, [], ◌∷◌, ◌++◌, length, Some, true, decimal}
use Rattle.std.specs.Fmt.{signed_decimal}
use Rattle.std.specs.List.{list_all, join_with_byte}
use Rattle.hw_text.specs.Numbers.{number_up_to, signed_up_to}
use Rattle.hw_text.specs.Parts.{parts_of, lacks, ended_lines}

-- the word reads as the number, within the limit, exactly where it is the one spelling of it
pub record Spells (most : ℕ) (word : List ℕ) (n : ℕ) : Type 0 where
  pub read : number_up_to most word ≡ Some n → (word ≡ decimal n) × (n ≤ most)
  pub written : word ≡ decimal n → n ≤ most → number_up_to most word ≡ Some n

abbrev pub NumberSpelled : Type 0
NumberSpelled = (most : ℕ) (word : List ℕ) (n : ℕ) → most < 2 ^ 64 → Spells most word n

-- a word and a signed number no further from 0 than the limit that it spells
pub record SpellsSigned (most : ℕ) (word : List ℕ) (z : ℤ) : Type 0 where
  pub read : signed_up_to most word ≡ Some z → (word ≡ signed_decimal z) × (neg_ℤ (pos most) ≤ℤ z) × (z ≤ℤ pos most)
  pub written : word ≡ signed_decimal z → neg_ℤ (pos most) ≤ℤ z → z ≤ℤ pos most → signed_up_to most word ≡ Some z

abbrev pub SignedSpelled : Type 0
SignedSpelled = (most : ℕ) (word : List ℕ) (z : ℤ) → most < 2 ^ 31 → SpellsSigned most word z

-- the parts of a text joined give the text again, and none of them holds the byte between them; parts without it come back
-- from the text that they make
pub record Joins (at : ℕ) : Type 0 where
  pub joined : (bytes : List ℕ) → join_with_byte at (parts_of at bytes) ≡ bytes
  pub lacking : (bytes : List ℕ) → list_all (lacks at) (parts_of at bytes) ≡ true
  pub cut : (parts : List (List ℕ)) → 1 ≤ length parts → list_all (lacks at) parts ≡ true → parts_of at (join_with_byte at parts) ≡ parts

abbrev pub PartsJoined : Type 0
PartsJoined = (at : ℕ) → Joins at

-- lines are the parts of the text in which each of them is ended, and the other way round
pub record EndsText (lines : List (List ℕ)) (bytes : List ℕ) : Type 0 where
  pub ended : parts_of 10 bytes ≡ lines ++ [] ∷ [] → bytes ≡ ended_lines lines
  pub cut : bytes ≡ ended_lines lines → list_all (lacks 10) lines ≡ true → parts_of 10 bytes ≡ lines ++ [] ∷ []

abbrev pub EndedLinesCut : Type 0
EndedLinesCut = (lines : List (List ℕ)) (bytes : List ℕ) → EndsText lines bytes
