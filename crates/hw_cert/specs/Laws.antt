-- The laws of the text of certificates.
use Rattle.std.specs.Prelude.{map, ◌≡◌, ◌⊎◌, ℕ, ◌+◌, ◌-◌, ◌^◌, ◌≤◌, ◌<◌, Bool, true, false, nat_le, List, [], ◌∷◌, ◌++◌, length, take, Some, None, Result, Ok, Err, ⊤}
use Rattle.std.specs.List.{list_all, flat_map, sum_by, AllByRecursion}
use Rattle.hw_text.specs.Parts.{parts_of}
use Rattle.hw_model.specs.declared.lit.Lit.{Lit}
use Rattle.hw_model.specs.declared.lit.Lit.TheVariants.{AtOrAfter, Before, First, NotFirst}
use Rattle.hw_model.specs.declared.shape.Shape.{Shape}
use Rattle.hw_price_laws.specs.declared.toll.Block.{Block}
use Rattle.hw_price_laws.specs.declared.toll.Toll.TheVariants as tolls
use Rattle.hw_cert_lines.specs.declared.line.Line.{Line}
use Rattle.hw_cert_lines.specs.declared.line.Line.TheVariants as lines
use Rattle.hw_cert_lines.specs.Tolled.{is_plain}
use Rattle.hw_cert.specs.declared.version.Version.{Version}
use Rattle.hw_cert.specs.declared.version.Version.TheVariants.{One, Two, Three}
use Rattle.hw_cert.specs.Texts.{line_text, certificate_header, cert_text}
use Rattle.hw_cert.specs.Spelled.{is_within, version_to}
use Rattle.hw_cert.specs.Fits.{first_fault, line_read}
use Rattle.hw_cert.specs.Stream.{Position, NextLine, ends, comes, bad, too_long, next_of, CertEnd, complete, broken, overlong, CertLines, stopped, stream_of, cert_stream_to, cert_stream}
use Rattle.hw_cert.specs.Certs.{Cert, BadLine, cert_read_to}

-- the numbers of a literal
abbrev pub lit_numbers : Lit → List ℕ
lit_numbers (AtOrAfter ship slot) = ship ∷ slot ∷ []
lit_numbers (Before ship slot) = ship ∷ slot ∷ []
lit_numbers (First v w) = v ∷ w ∷ []
lit_numbers (NotFirst v w) = v ∷ w ∷ []

-- the numbers of a block
abbrev pub block_numbers : Block → List ℕ
block_numbers block = block.ship ∷ block.low ∷ block.high ∷ []

-- the numbers of a line but prices and a bound
abbrev pub line_numbers : Line → List ℕ
line_numbers (lines.Table table) = table
line_numbers (lines.Explain n clause) = n ∷ flat_map lit_numbers clause
line_numbers (lines.Order v w x clause) = v ∷ w ∷ x ∷ flat_map lit_numbers clause
line_numbers (lines.Goal clause) = flat_map lit_numbers clause
line_numbers (lines.Lemma clause hints) = flat_map lit_numbers clause ++ hints
line_numbers (lines.Delete ids) = ids
line_numbers (lines.Toll (tolls.Narrows blocks)) = flat_map block_numbers blocks
line_numbers (lines.Toll (tolls.Tugs n slot weights most)) = n ∷ slot ∷ most ∷ weights
line_numbers (lines.Tariff tariff) = tariff.scale ∷ map (λ due. due.toll) tariff.dues
line_numbers (lines.Priced clause) = flat_map lit_numbers clause
line_numbers (lines.Bound bound) = []

-- the prices or the bound of a line, which may be greater
abbrev pub wide_numbers : Line → List ℕ
wide_numbers (lines.Table table) = []
wide_numbers (lines.Explain n clause) = []
wide_numbers (lines.Order v w x clause) = []
wide_numbers (lines.Goal clause) = []
wide_numbers (lines.Lemma clause hints) = []
wide_numbers (lines.Delete ids) = []
wide_numbers (lines.Toll toll) = []
wide_numbers (lines.Tariff tariff) = map (λ due. due.price) tariff.dues
wide_numbers (lines.Priced clause) = []
wide_numbers (lines.Bound bound) = bound ∷ []

-- the version has lines of this form
abbrev pub has_form : Version → Line → Bool
has_form version (lines.Table table) = true
has_form version (lines.Explain n clause) = true
has_form version (lines.Order v w x clause) = true
has_form version (lines.Goal clause) = true
has_form version (lines.Lemma clause hints) = true
has_form One (lines.Delete ids) = false
has_form Two (lines.Delete ids) = true
has_form Three (lines.Delete ids) = true
has_form One (lines.Toll toll) = false
has_form Two (lines.Toll toll) = false
has_form Three (lines.Toll toll) = true
has_form One (lines.Tariff tariff) = false
has_form Two (lines.Tariff tariff) = false
has_form Three (lines.Tariff tariff) = true
has_form One (lines.Priced clause) = false
has_form Two (lines.Priced clause) = false
has_form Three (lines.Priced clause) = true
has_form One (lines.Bound bound) = false
has_form Two (lines.Bound bound) = false
has_form Three (lines.Bound bound) = true

-- a number that a line's text may have
abbrev pub is_small : ℕ → Bool
is_small n = nat_le n (2 ^ 32 - 1)

-- a price or a bound that a line's text may have
abbrev pub is_wide : ℕ → Bool
is_wide n = nat_le n (2 ^ 64 - 1)

-- a line of a certificate of this version, for a problem of this shape
pub record IsLine (shape : Shape) (version : Version) (line : Line) : Type 0 where
  pub fits : first_fault shape line ≡ None
  pub small : list_all is_small (line_numbers line) ≡ true
  pub wide : list_all is_wide (wide_numbers line) ≡ true
  pub formed : has_form version line ≡ true

-- bytes read as a line exactly where they are the text of a line, and then as that one
pub record SpellsLine (shape : Shape) (version : Version) (bytes : List ℕ) (line : Line) : Type 0 where
  pub read : line_read shape version bytes ≡ Ok line → (bytes ≡ line_text line) × IsLine shape version line
  pub written : bytes ≡ line_text line → IsLine shape version line → line_read shape version bytes ≡ Ok line

-- bytes read as a line exactly where they are its one text and it is a line of the version and shape
abbrev pub LineSpelled : Type 0
LineSpelled = (shape : Shape) (version : Version) (bytes : List ℕ) (line : Line) → 1 ≤ shape.ships → SpellsLine shape version bytes line

-- the same of headers of versions up to the greatest one
pub record SpellsHeader (most : Version) (bytes : List ℕ) (version : Version) : Type 0 where
  pub read : version_to most bytes ≡ Some version → (bytes ≡ certificate_header version) × (is_within most version ≡ true)
  pub written : bytes ≡ certificate_header version → is_within most version ≡ true → version_to most bytes ≡ Some version

-- bytes are read as the header of a version exactly where they are its one text and the version is within the greatest one
abbrev pub HeaderSpelled : Type 0
HeaderSpelled = (most : Version) (bytes : List ℕ) (version : Version) → SpellsHeader most bytes version

-- the text of a certificate of a version within the greatest one, and each line is one of the version and shape
pub record IsCert (most : Version) (shape : Shape) (bytes : List ℕ) (version : Version) (all : List Line) : Type 0 where
  pub text : bytes ≡ cert_text version all
  pub within : is_within most version ≡ true
  pub each : AllByRecursion (IsLine shape version) all

-- bytes read as a certificate exactly where they are its text
pub record SpellsCert (most : Version) (shape : Shape) (bytes : List ℕ) (version : Version) (all : List Line) : Type 0 where
  pub read : cert_read_to most shape bytes ≡ Ok (record { version = version; lines = all }) → IsCert most shape bytes version all
  pub written : IsCert most shape bytes version all → cert_read_to most shape bytes ≡ Ok (record { version = version; lines = all })

-- bytes read as a whole certificate exactly where they are its one text and each line is one of the version and shape
abbrev pub CertSpelled : Type 0
CertSpelled = (most : Version) (shape : Shape) (bytes : List ℕ) (version : Version) (all : List Line) → 1 ≤ shape.ships → SpellsCert most shape bytes version all

-- the forms of the second version are those of plain lines
abbrev pub PlainForms : Type 0
PlainForms = (line : Line) → has_form Two line ≡ is_plain line

-- the third version has the forms of all lines
abbrev pub ThirdForms : Type 0
ThirdForms = (line : Line) → has_form Three line ≡ true

-- lines that are read up to a version have its forms
abbrev pub ReadForms : Type 0
ReadForms = (most : Version) (shape : Shape) (bytes : List ℕ) → list_all (has_form most) (cert_stream_to most shape bytes).lines ≡ true

-- lines that are read up to the second version are plain
abbrev pub PlainRead : Type 0
PlainRead = (shape : Shape) (bytes : List ℕ) → list_all is_plain (cert_stream shape bytes).lines ≡ true

-- the lines after what comes next
abbrev pub following : Shape → NextLine → CertLines
following shape ends = stopped complete
following shape (comes line after more) = record { lines = line ∷ (stream_of shape after more).lines; stop = (stream_of shape after more).stop }
following shape (bad number word) = stopped (broken number word)
following shape too_long = stopped overlong

-- taking what comes next, again and again, gives the lines of the stream
abbrev pub StreamSteps : Type 0
StreamSteps = (shape : Shape) (at : Position) (parts : List (List ℕ)) → stream_of shape at parts ≡ following shape (next_of shape at parts)

-- the lines of a stream and how they end, by what the bytes read as. A limit that is passed says nothing
abbrev pub StreamAgrees : CertEnd → List Line → Result Cert BadLine → Type 0
StreamAgrees complete all read = (version : Version) × (read ≡ Ok (record { version = version; lines = all }))
StreamAgrees (broken number word) all read = read ≡ Err (record { number = number; word = word })
StreamAgrees overlong all read = ⊤

-- where no limit is passed, the stream is what the bytes read as
abbrev pub StreamReads : Type 0
StreamReads = (most : Version) (shape : Shape) (bytes : List ℕ) → StreamAgrees (cert_stream_to most shape bytes).stop (cert_stream_to most shape bytes).lines (cert_read_to most shape bytes)

-- how many bytes a line has with its end
abbrev pub ended_size : List ℕ → ℕ
ended_size line = length line + 1

-- a line of `size` bytes with an end of `end` bytes, after `taken` bytes: it is longer than a line may be, or ends after
-- the last byte that a certificate may have
abbrev pub OverLimit : ℕ → ℕ → ℕ → Type 0
OverLimit taken size end = (2 ^ 20 < size) ⊎ (2 ^ 40 < taken + size + end)

-- one of these parts between line feeds is such a line
pub record IsOverLimit (all : List (List ℕ)) : Type 0 where
  pub before : List (List ℕ)
  pub line : List ℕ
  pub more : List (List ℕ)
  pub parts : all ≡ before ++ line ∷ more
  pub over : OverLimit (sum_by ended_size before) (length line) (length (take 1 more))

-- the lines of a certificate end at a limit only where one of its lines passes it
abbrev pub OverlongPasses : Type 0
OverlongPasses = (most : Version) (shape : Shape) (bytes : List ℕ) → (cert_stream_to most shape bytes).stop ≡ overlong → IsOverLimit (parts_of 10 bytes)
