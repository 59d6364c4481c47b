-- What it means that a text is refused at a line.
use Rattle.std.specs.Prelude.{◌≡◌, ◌≢◌, ◌⊎◌, ℕ, ◌-◌, ◌≤◌, List}
use Rattle.hw_model.specs.Problem.{Problem}
use Rattle.hw_model.specs.Limits.{IsFlat}
use Rattle.hw_text.specs.Parts.{parts_of}
use Rattle.hw_flat.specs.declared.fault.FlatWord.{FlatWord}
use Rattle.hw_flat.specs.declared.fault.FlatWord.TheVariants as words
use Rattle.hw_flat.specs.Text.{flat_text, fault}
use Rattle.hw_flat.specs.TextWritten.{problem_text, IsWritable}
use Rattle.hw_flat_laws.specs.FirstLines.{part_count, SameLines}
use Rattle.hw_flat_laws.specs.Wanted.{IsWanted, OutOfRules}

-- a problem whose text has these first lines
pub record TextGoesOn (count : ℕ) (bytes : List ℕ) : Type 0 where
  pub problem : Problem
  pub limits : IsFlat problem
  pub writable : IsWritable problem
  pub begins : SameLines count bytes (problem_text problem)

-- the lines before begin a text that reads; or they have no room for the rule with hours that is still wanted, and all but the last
-- of them do
abbrev pub LinesBefore : List ℕ → ℕ → Type 0
LinesBefore bytes number = TextGoesOn (number - 1) bytes ⊎ (OutOfRules (parts_of 10 bytes) number × TextGoesOn (number - 2) bytes)

-- the text is refused at this line, with this word
abbrev pub IsRefused : List ℕ → ℕ → FlatWord → Type 0
IsRefused bytes number word = flat_text bytes ≡ fault number word

-- nothing before the line is wrong, no text that has it too reads, a text that stops there ends too early, and the place
-- tells the word
pub record BadFlatLine (bytes : List ℕ) (number : ℕ) (word : FlatWord) : Type 0 where
  pub counted : 1 ≤ number
  pub begins : LinesBefore bytes number
  pub dead_end : (others : List ℕ) → SameLines number bytes others → IsRefused others number word
  pub cut_off : word ≢ words.Tail → part_count bytes ≡ number → (others : List ℕ) → SameLines (number - 1) bytes others → part_count others ≡ number → IsRefused others number word
  pub told : IsWanted (parts_of 10 bytes) number word

-- where a text is refused at a line, that is a first bad line
abbrev pub FirstBadLine : Type 0
FirstBadLine = (bytes : List ℕ) (number : ℕ) (word : FlatWord) → IsRefused bytes number word → BadFlatLine bytes number word

-- where the lines before begin a text that reads and the line isn't what is wanted, the text is refused there, since that is
-- missing
abbrev pub WantedRefuses : Type 0
WantedRefuses = (bytes : List ℕ) (number : ℕ) (word : FlatWord) → TextGoesOn (number - 1) bytes → IsWanted (parts_of 10 bytes) number word → IsRefused bytes number word
