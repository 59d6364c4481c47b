-- Which lines have a form of a version, and the laws that tie them to their text.
use Rattle.std.specs.Prelude.{◌≡◌, ◌⊎◌, ℕ, ◌<◌, List, All, Some, Ok, ⊤, true, length}
use Rattle.std.specs.List.{list_all}
use Rattle.hw_model.specs.Problem.{Problem, shape_of}
use Rattle.hw_model.specs.Limits.{IsFlat}
use Rattle.hw_price_laws.specs.declared.toll.Toll.TheVariants as tolls
use Rattle.hw_cert_lines.specs.declared.line.Line.{Line}
use Rattle.hw_cert_lines.specs.declared.line.Line.TheVariants as lines
use Rattle.hw_cert_lines.specs.Valid.{LineFits, Valid}
use Rattle.hw_cert.specs.declared.version.Version.{Version}
use Rattle.hw_cert.specs.declared.version.Version.TheVariants.{Three}
use Rattle.hw_cert.specs.Texts.{line_text, cert_text}
use Rattle.hw_cert.specs.Spelled.{is_within, spelled}
use Rattle.hw_cert.specs.Certs.{cert_read_to}
use Rattle.hw_cert.specs.Stream.{complete, overlong, cert_stream_to}
use Rattle.hw_cert.specs.Laws.{line_numbers, wide_numbers, has_form, is_small, is_wide}

-- a table has a slot, a deletion a number, and a narrows a block
abbrev pub HasWords : Line → Type 0
HasWords (lines.Table table) = 0 < length table
HasWords (lines.Explain n clause) = ⊤
HasWords (lines.Order v w x clause) = ⊤
HasWords (lines.Goal clause) = ⊤
HasWords (lines.Lemma clause hints) = ⊤
HasWords (lines.Delete ids) = 0 < length ids
HasWords (lines.Toll (tolls.Narrows blocks)) = 0 < length blocks
HasWords (lines.Toll (tolls.Tugs n slot weights most)) = ⊤
HasWords (lines.Tariff tariff) = ⊤
HasWords (lines.Priced clause) = ⊤
HasWords (lines.Bound bound) = ⊤

-- a line of one of the forms of the version, with numbers up to 4,294,967,295, prices and a bound up to 18,446,744,073,709,551,615,
-- whatever the problem
pub record IsOfForm (version : Version) (line : Line) : Type 0 where
  pub formed : has_form version line ≡ true
  pub small : list_all is_small (line_numbers line) ≡ true
  pub wide : list_all is_wide (wide_numbers line) ≡ true
  pub some_word : HasWords line

-- bytes have the form exactly where they are the text of such a line, and then of that one
pub record SpellsForm (version : Version) (bytes : List ℕ) (line : Line) : Type 0 where
  pub read : spelled version bytes ≡ Some line → (bytes ≡ line_text line) × IsOfForm version line
  pub written : bytes ≡ line_text line → IsOfForm version line → spelled version bytes ≡ Some line

-- the words of bytes spell a line of a version exactly where the bytes are the text of that line and it is one of the forms
-- of the version
abbrev pub FormSpelled : Type 0
FormSpelled = (version : Version) (bytes : List ℕ) (line : Line) → SpellsForm version bytes line

-- the text of valid lines of a problem, of forms of a version, reads back as these lines, where the version is within the greatest one
abbrev pub ValidReads : Type 0
ValidReads = (most version : Version) (f : Problem) (all : List Line) → is_within most version ≡ true → IsFlat f → All (LineFits f) all → Valid f all → list_all (has_form version) all ≡ true
    → cert_read_to most (shape_of f) (cert_text version all) ≡ Ok (record { version = version; lines = all })

-- the lines of that text are these lines, and they end well, unless one of them passes a limit
abbrev pub ValidStreams : Type 0
ValidStreams = (most version : Version) (f : Problem) (all : List Line) → is_within most version ≡ true → IsFlat f → All (LineFits f) all → Valid f all → list_all (has_form version) all ≡ true
    → ((cert_stream_to most (shape_of f) (cert_text version all)).stop ≡ overlong) ⊎ (cert_stream_to most (shape_of f) (cert_text version all) ≡ record { lines = all; stop = complete })

-- so it is of the third version with valid lines of any form: their text reads back as these lines
abbrev pub ThirdReads : Type 0
ThirdReads = (f : Problem) (all : List Line) → IsFlat f → All (LineFits f) all → Valid f all → cert_read_to Three (shape_of f) (cert_text Three all) ≡ Ok (record { version = Three; lines = all })

-- and they are the lines of that text, unless one of them passes a limit
abbrev pub ThirdStreams : Type 0
ThirdStreams = (f : Problem) (all : List Line) → IsFlat f → All (LineFits f) all → Valid f all
    → ((cert_stream_to Three (shape_of f) (cert_text Three all)).stop ≡ overlong) ⊎ (cert_stream_to Three (shape_of f) (cert_text Three all) ≡ record { lines = all; stop = complete })
