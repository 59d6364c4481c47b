-- Each problem has one text, and no other text reads as it.
use Rattle.std.specs.Prelude.{◌≡◌, ℕ, List, Ok}
use Rattle.hw_model.specs.Problem.{Problem}
use Rattle.hw_model.specs.Limits.{IsFlat}
use Rattle.hw_flat.specs.Text.{flat_text}
use Rattle.hw_flat.specs.TextWritten.{problem_text, IsWritable}

-- a text and a problem that it may say
pub record SaysProblem (bytes : List ℕ) (f : Problem) : Type 0 where
  pub limits : flat_text bytes ≡ Ok f → IsFlat f
  pub writable : flat_text bytes ≡ Ok f → IsWritable f
  pub spelled : flat_text bytes ≡ Ok f → bytes ≡ problem_text f

-- bytes that read as a problem are its one text, and the problem keeps the limits and has a text
abbrev pub OneText : Type 0
OneText = (bytes : List ℕ) (f : Problem) → SaysProblem bytes f

-- the text of a problem that has one reads as that problem
abbrev pub ReadsBack : Type 0
ReadsBack = (f : Problem) → IsFlat f → IsWritable f → flat_text (problem_text f) ≡ Ok f
