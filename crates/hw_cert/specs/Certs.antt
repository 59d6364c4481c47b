-- What a certificate's bytes read as, whatever its size.
use Rattle.std.specs.Prelude.{ℕ, ◌+◌, List, [], ◌∷◌, Option, Some, None, Result, Ok, Err}
use Rattle.hw_model.specs.declared.shape.Shape.{Shape}
use Rattle.hw_text.specs.Parts.{parts_of}
use Rattle.hw_cert_lines.specs.declared.line.Line.{Line}
use Rattle.hw_cert.specs.declared.stop.FormWord.{FormWord}
use Rattle.hw_cert.specs.declared.stop.FormWord.TheVariants.{Header, Form}
use Rattle.hw_cert.specs.declared.version.Version.{Version}
use Rattle.hw_cert.specs.declared.version.Version.TheVariants.{Two}
use Rattle.hw_cert.specs.Spelled.{version_to}
use Rattle.hw_cert.specs.Fits.{line_read}

-- a certificate: its version and its lines
pub record Cert : Type 0 where
  pub version : Version
  pub lines : List Line

-- the first line that is no spelling of a line: its number and its word
pub record BadLine : Type 0 where
  pub number : ℕ
  pub word : FormWord

-- the bytes after the last line feed
abbrev pub last_read : ℕ → List ℕ → Result (List Line) BadLine
last_read number [] = Ok []
last_read number (b ∷ bs) = Err (record { number = number; word = Form })

-- a line before others
abbrev pub put_line : ℕ → Result Line FormWord → Result (List Line) BadLine → Result (List Line) BadLine
put_line number (Err word) more = Err (record { number = number; word = word })
put_line number (Ok line) (Err bad) = Err bad
put_line number (Ok line) (Ok all) = Ok (line ∷ all)

-- a part that others follow is a line
abbrev pub part_read : ℕ → List ℕ → List (List ℕ) → Result Line FormWord → Result (List Line) BadLine → Result (List Line) BadLine
part_read number part [] line more = last_read number part
part_read number part (next ∷ parts) line more = put_line number line more

-- the lines of these parts, from the line of this number on
abbrev pub lines_read : Shape → Version → ℕ → List (List ℕ) → Result (List Line) BadLine
lines_read shape version number [] = Ok []
lines_read shape version number (part ∷ parts) = part_read number part parts (line_read shape version part) (lines_read shape version (number + 1) parts)

-- the lines with their version
abbrev pub with_version : Version → Result (List Line) BadLine → Result Cert BadLine
with_version version (Ok all) = Ok (record { version = version; lines = all })
with_version version (Err bad) = Err bad

abbrev pub headed : Shape → List (List ℕ) → Option Version → Result Cert BadLine
headed shape parts None = Err (record { number = 1; word = Header })
headed shape parts (Some version) = with_version version (lines_read shape version 2 parts)

abbrev pub parts_read : Version → Shape → List (List ℕ) → Result Cert BadLine
parts_read most shape [] = Err (record { number = 1; word = Header })
parts_read most shape (tail ∷ []) = Err (record { number = 1; word = Header })
parts_read most shape (header ∷ next ∷ parts) = headed shape (next ∷ parts) (version_to most header)

-- the version, up to this one, and the lines whose text the bytes are, or the first line that is no spelling of one
abbrev pub cert_read_to : Version → Shape → List ℕ → Result Cert BadLine
cert_read_to most shape bytes = parts_read most shape (parts_of 10 bytes)

-- the same up to the second version
abbrev pub cert_read : Shape → List ℕ → Result Cert BadLine
cert_read shape bytes = cert_read_to Two shape bytes
