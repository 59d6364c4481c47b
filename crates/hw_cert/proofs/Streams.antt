-- The stream of lines, step by step.
use Rattle.std.proofs.Common.{◌≡◌, ◌+◌, cond, ℕ, true, false, List, [], ◌∷◌, length, Option, Some, None, Result, Ok, Err, refl}
use Rattle.hw_model.specs.declared.shape.Shape.{Shape}
use Rattle.hw_cert.specs.Fits.{line_read}
use Rattle.hw_cert.specs.Spelled.{version_to}
use Rattle.hw_cert.specs.Stream.{Position, Cut, nothing, whole, unended, long, line_passes_limit, cut_of, tail_cut, past_line, line_by, line_next, header_by, header_next, next_by, next_of, CertLines, onward, lines_from, lines_by, lines_after, stream_by, stream_of}
use Rattle.hw_cert.specs.Laws.{following}
use Rattle.hw_cert_lines.specs.declared.line.Line.{Line}
use Rattle.hw_cert.specs.declared.stop.FormWord.{FormWord}
use Rattle.hw_cert.specs.declared.version.Version.{Version}

tail_steps : (shape : Shape) (most version : Version) (number taken : ℕ) (tail : List ℕ) (later : CertLines) → onward (line_next shape most version number taken (tail_cut taken tail)) later ≡ following shape (line_next shape most version number taken (tail_cut taken tail))
tail_steps shape most version number taken [] later = refl
tail_steps shape most version number taken (b ∷ bs) later =
    elim (line_passes_limit taken (length (b ∷ bs)) 0) as (λ p. onward (line_next shape most version number taken (cond p long unended)) later ≡ following shape (line_next shape most version number taken (cond p long unended))) [
      | true ↦ refl
      | false ↦ refl
    ]

read_steps : (shape : Shape) (most version : Version) (number taken : ℕ) (line next : List ℕ) (more : List (List ℕ)) (r : Result Line FormWord)
    → onward (line_by number (past_line most version number taken line) (next ∷ more) r) (lines_from shape most version (number + 1) (taken + length line + 1) (next ∷ more)) ≡ following shape (line_by number (past_line most version number taken line) (next ∷ more) r)
read_steps shape most version number taken line next more (Ok l) = refl
read_steps shape most version number taken line next more (Err word) = refl

-- after the header
pub line_steps : (shape : Shape) (most version : Version) (number taken : ℕ) (parts : List (List ℕ)) → lines_from shape most version number taken parts ≡ following shape (line_next shape most version number taken (cut_of taken parts))
line_steps shape most version number taken [] = refl
line_steps shape most version number taken (tail ∷ []) = tail_steps shape most version number taken tail (lines_from shape most version (number + 1) (taken + length tail + 1) [])
line_steps shape most version number taken (line ∷ next ∷ more) =
    elim (line_passes_limit taken (length line) 1) as (λ p. onward (line_next shape most version number taken (cond p long (whole line (next ∷ more)))) (lines_from shape most version (number + 1) (taken + length line + 1) (next ∷ more)) ≡ following shape (line_next shape most version number taken (cond p long (whole line (next ∷ more))))) [
      | true ↦ refl
      | false ↦ read_steps shape most version number taken line next more (line_read shape version line)
    ]

version_steps : (shape : Shape) (most : Version) (number taken : ℕ) (line : List ℕ) (more : List (List ℕ)) (v : Option Version) → lines_by shape most number taken line more v ≡ following shape (header_by shape most number taken line more v)
version_steps shape most number taken line more None = refl
version_steps shape most number taken line more (Some version) = line_steps shape most version (number + 1) (taken + length line + 1) more

header_steps : (shape : Shape) (most : Version) (number taken : ℕ) (cut : Cut) → lines_after shape most number taken cut ≡ following shape (header_next shape most number taken cut)
header_steps shape most number taken nothing = refl
header_steps shape most number taken (whole line more) = version_steps shape most number taken line more (version_to most line)
header_steps shape most number taken unended = refl
header_steps shape most number taken long = refl

by_version : (shape : Shape) (most : Version) (number taken : ℕ) (v : Option Version) (parts : List (List ℕ)) → stream_by shape most number taken v parts ≡ following shape (next_by shape most number taken v parts)
by_version shape most number taken None parts = header_steps shape most number taken (cut_of taken parts)
by_version shape most number taken (Some version) parts = line_steps shape most version number taken parts

pub steps : (shape : Shape) (at : Position) (parts : List (List ℕ)) → stream_of shape at parts ≡ following shape (next_of shape at parts)
steps shape at parts = by_version shape at.most at.number at.taken at.version parts
