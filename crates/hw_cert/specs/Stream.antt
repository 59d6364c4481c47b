-- A certificate as a stream: what the bytes left read as, line by line.
use Rattle.std.specs.Prelude.{ℕ, ◌+◌, ◌^◌, Bool, ◌||◌, nat_lt, List, [], ◌∷◌, Option, Some, None, Result, Ok, Err, length, if◌then◌else◌}
use Rattle.hw_model.specs.declared.shape.Shape.{Shape}
use Rattle.hw_text.specs.Parts.{parts_of}
use Rattle.hw_cert_lines.specs.declared.line.Line.{Line}
use Rattle.hw_cert.specs.declared.stop.FormWord.{FormWord}
use Rattle.hw_cert.specs.declared.stop.FormWord.TheVariants.{Header, Form}
use Rattle.hw_cert.specs.declared.version.Version.{Version}
use Rattle.hw_cert.specs.declared.version.Version.TheVariants.{Two}
use Rattle.hw_cert.specs.Spelled.{version_to}
use Rattle.hw_cert.specs.Fits.{line_read}

-- where the reading of a certificate stands: the greatest version that its header may name; its version, or none before the
-- header; the number of the line that comes next; and how many bytes the lines before it have with their ends
pub record Position : Type 0 where
  pub most : Version
  pub version : Option Version
  pub number : ℕ
  pub taken : ℕ

-- where reading up to this version starts: before the header
abbrev pub start_to : Version → Position
start_to most = record { most = most; version = None; number = 1; taken = 0 }

-- the same up to the second version
abbrev pub start : Position
start = start_to Two

-- a line of `size` bytes with an end of `end` bytes, after `taken` bytes, passes a limit
abbrev pub line_passes_limit : ℕ → ℕ → ℕ → Bool
line_passes_limit taken size end = nat_lt (2 ^ 20) size || nat_lt (2 ^ 40) (taken + size + end)

-- what the parts that are left between line feeds begin with
pub data Cut : Type 0 where
  nothing : Cut
  -- a line that passes no limit, with the parts after it
  whole : List ℕ → List (List ℕ) → Cut
  -- bytes without an end, which pass no limit
  unended : Cut
  -- a line that passes a limit
  long : Cut

-- the bytes after the last line feed
abbrev pub tail_cut : ℕ → List ℕ → Cut
tail_cut taken [] = nothing
tail_cut taken (b ∷ bs) = if line_passes_limit taken (length (b ∷ bs)) 0 then long else unended

abbrev pub cut_of : ℕ → List (List ℕ) → Cut
cut_of taken [] = nothing
cut_of taken (tail ∷ []) = tail_cut taken tail
cut_of taken (line ∷ next ∷ more) = if line_passes_limit taken (length line) 1 then long else whole line (next ∷ more)

-- what comes next of a certificate
pub data NextLine : Type 0 where
  -- nothing, after a whole line
  ends : NextLine
  -- this line; these parts follow it, and the reading stands there
  comes : Line → Position → List (List ℕ) → NextLine
  -- the line of this number is no spelling of a line
  bad : ℕ → FormWord → NextLine
  -- a line that passes a limit
  too_long : NextLine

-- the position after a line, which has the header's version
abbrev pub past_line : Version → Version → ℕ → ℕ → List ℕ → Position
past_line most version number taken line = record { most = most; version = Some version; number = number + 1; taken = taken + length line + 1 }

-- a line by what it reads as
abbrev pub line_by : ℕ → Position → List (List ℕ) → Result Line FormWord → NextLine
line_by number after more (Ok line) = comes line after more
line_by number after more (Err word) = bad number word

-- the line after the header or another line
abbrev pub line_next : Shape → Version → Version → ℕ → ℕ → Cut → NextLine
line_next shape most version number taken nothing = ends
line_next shape most version number taken (whole line more) = line_by number (past_line most version number taken line) more (line_read shape version line)
line_next shape most version number taken unended = bad number Form
line_next shape most version number taken long = too_long

-- the line after a header that names this version, if it names one
abbrev pub header_by : Shape → Version → ℕ → ℕ → List ℕ → List (List ℕ) → Option Version → NextLine
header_by shape most number taken line more None = bad number Header
header_by shape most number taken line more (Some version) = line_next shape most version (number + 1) (taken + length line + 1) (cut_of (taken + length line + 1) more)

-- the header, and the line after it
abbrev pub header_next : Shape → Version → ℕ → ℕ → Cut → NextLine
header_next shape most number taken nothing = bad number Header
header_next shape most number taken (whole line more) = header_by shape most number taken line more (version_to most line)
header_next shape most number taken unended = bad number Header
header_next shape most number taken long = too_long

abbrev pub next_by : Shape → Version → ℕ → ℕ → Option Version → List (List ℕ) → NextLine
next_by shape most number taken None parts = header_next shape most number taken (cut_of taken parts)
next_by shape most number taken (Some version) parts = line_next shape most version number taken (cut_of taken parts)

-- what comes next, of a certificate whose bytes left have these parts between line feeds
abbrev pub next_of : Shape → Position → List (List ℕ) → NextLine
next_of shape at parts = next_by shape at.most at.number at.taken at.version parts

-- how the lines end
pub data CertEnd : Type 0 where
  -- after a whole line
  complete : CertEnd
  -- before the line of this number, which is no spelling
  broken : ℕ → FormWord → CertEnd
  -- before a line that passes a limit
  overlong : CertEnd

-- the lines of a certificate up to its end, or up to the first line that can't be read
pub record CertLines : Type 0 where
  pub lines : List Line
  pub stop : CertEnd

abbrev pub stopped : CertEnd → CertLines
stopped stop = record { lines = []; stop = stop }

-- the lines from one on, by what comes next and the lines after it
abbrev pub onward : NextLine → CertLines → CertLines
onward ends later = stopped complete
onward (comes line after more) later = record { lines = line ∷ later.lines; stop = later.stop }
onward (bad number word) later = stopped (broken number word)
onward too_long later = stopped overlong

-- the lines of these parts, where the header stands before them
abbrev pub lines_from : Shape → Version → Version → ℕ → ℕ → List (List ℕ) → CertLines
lines_from shape most version number taken [] = stopped complete
lines_from shape most version number taken (line ∷ more) =
    onward (line_next shape most version number taken (cut_of taken (line ∷ more))) (lines_from shape most version (number + 1) (taken + length line + 1) more)

-- the lines after a header
abbrev pub lines_by : Shape → Version → ℕ → ℕ → List ℕ → List (List ℕ) → Option Version → CertLines
lines_by shape most number taken line more None = stopped (broken number Header)
lines_by shape most number taken line more (Some version) = lines_from shape most version (number + 1) (taken + length line + 1) more

abbrev pub lines_after : Shape → Version → ℕ → ℕ → Cut → CertLines
lines_after shape most number taken nothing = stopped (broken number Header)
lines_after shape most number taken (whole line more) = lines_by shape most number taken line more (version_to most line)
lines_after shape most number taken unended = stopped (broken number Header)
lines_after shape most number taken long = stopped overlong

abbrev pub stream_by : Shape → Version → ℕ → ℕ → Option Version → List (List ℕ) → CertLines
stream_by shape most number taken None parts = lines_after shape most number taken (cut_of taken parts)
stream_by shape most number taken (Some version) parts = lines_from shape most version number taken parts

-- the lines from a position on
abbrev pub stream_of : Shape → Position → List (List ℕ) → CertLines
stream_of shape at parts = stream_by shape at.most at.number at.taken at.version parts

-- what the bytes of a certificate of this version or an earlier one read as, line by line and within the limits
abbrev pub cert_stream_to : Version → Shape → List ℕ → CertLines
cert_stream_to most shape bytes = stream_of shape (start_to most) (parts_of 10 bytes)

-- the same up to the second version
abbrev pub cert_stream : Shape → List ℕ → CertLines
cert_stream shape bytes = cert_stream_to Two shape bytes
