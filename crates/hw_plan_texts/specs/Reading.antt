-- Reading a small text line by line, up to its first bad line.
use Rattle.std.specs.Prelude.{◌≡◌, ℕ, List, Option, Some, None, Result, Ok, Err, bytes_eq, if◌then◌else◌}
use Rattle.hw_lemmas.specs.Operators.{◌>>=◌}
use Rattle.hw_text.specs.Parts.{first_part, at_end}
use Rattle.hw_plan_texts.specs.declared.fault.LineFault.{LineFault}
use Rattle.hw_plan_texts.specs.declared.fault.LineFault.TheVariants as faults

-- the first line that isn't of the form demanded at its place, and the word for that form
pub record MalformedLine (W : Type 0) : Type 0 where
  pub number : ℕ
  pub word : W

abbrev pub malformed_line : {W A : Type 0} → ℕ → W → Result A (MalformedLine W)
malformed_line number word = Err (record { number = number; word = word })

-- what a line says by its form, or that it isn't of the form
abbrev pub formed_line : {W A : Type 0} → ℕ → W → Option A → Result A (MalformedLine W)
formed_line number word None = malformed_line number word
formed_line number word (Some x) = Ok x

-- the next line and the parts after it
abbrev pub formed_line_at : {W : Type 0} → ℕ → W → List (List ℕ) → Result (List ℕ × List (List ℕ)) (MalformedLine W)
formed_line_at number word parts = formed_line number word (first_part parts)

-- the parts after a line that is just this text
abbrev pub only_at : {W : Type 0} → ℕ → W → List ℕ → List (List ℕ) → Result (List (List ℕ)) (MalformedLine W)
only_at number word text parts = formed_line_at number word parts >>= λ line. if bytes_eq line.0 text then Ok line.1 else malformed_line number word

-- what was read, if no byte is left
abbrev pub ended_at : {W A : Type 0} → ℕ → W → A → List (List ℕ) → Result A (MalformedLine W)
ended_at number word read parts = if at_end parts then Ok read else malformed_line number word

-- the fault names the line and the word that reading gives. Running out of memory is free
abbrev pub TextReadFails : {W A : Type 0} → LineFault W → Result A (MalformedLine W) → Type 0
TextReadFails faults.NoMemory read = Unit {0}
TextReadFails (faults.Line number word) read = read ≡ Err (record { number = number; word = word })

-- what a function returned, seen by view, is what reading gives, unless memory ran out
abbrev pub TextReadGives : {W A B : Type 0} → (A → B) → Result A (LineFault W) → Result B (MalformedLine W) → Type 0
TextReadGives view (Ok x) read = read ≡ Ok (view x)
TextReadGives view (Err e) read = TextReadFails e read
