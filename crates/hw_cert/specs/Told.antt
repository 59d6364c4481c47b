-- What bytes tell of a log, whatever the problem: its lines, and the bytes after them.
use Rattle.std.specs.Prelude.{◌≡◌, ◌<◌, ℕ, ◌==◌, List, [], ◌∷◌, ◌++◌, Bool, true, Option, Some, None, length, take, option_and_then, is_some, bytes_eq, codes, if◌then◌else◌}
use Rattle.std.specs.Borrow.{GName}
use Rattle.hw_text.specs.Parts.{parts_of, lacks}
use Rattle.hw_desk.specs.State.{DeskState, Rose}
use Rattle.hw_desk.specs.Calls.{Sends}
use Rattle.hw_desk.specs.declared.desk.Tray.TheVariants.{Proof}
use Rattle.hw_cert_lines.specs.declared.line.Line.{Line}
use Rattle.hw_price_laws.specs.declared.toll.Toll.TheVariants.{Narrows}
use Rattle.hw_cert_lines.specs.declared.line.Line.TheVariants.{Table, Delete, Toll}
use Rattle.hw_cert.specs.declared.version.Version.{Version}
use Rattle.hw_cert.specs.declared.version.Version.TheVariants.{Three}
use Rattle.hw_cert.specs.Texts.{certificate_header, cert_text}
use Rattle.hw_cert.specs.Spelled.{spelled}
use Rattle.hw_cert.specs.Logs.{LogAnchor, LogTold, LogModel, outside_of}

-- the header's line of a version with its end
abbrev pub header_line : Version → List ℕ
header_line version = certificate_header version ++ 10 ∷ []

-- the header of a version was not sent whole: a proper prefix of it was, and then a write failed
abbrev pub FailsHeader : Version → DeskState → DeskState → Type 0
FailsHeader version old new = ((n : ℕ) × (n < length (header_line version)) × Sends Proof (take n (header_line version)) old new) × Rose old.write_faults new.write_faults

-- the bytes after others, if they begin with those
abbrev pub without_prefix : List ℕ → List ℕ → Option (List ℕ)
without_prefix [] bytes = Some bytes
without_prefix (p ∷ ps) [] = None
without_prefix (p ∷ ps) (b ∷ bs) = if b == p then without_prefix ps bs else None

-- the line whose text a part is, whatever the problem: one that a certificate of some version may have, or a table or a deletion
-- without numbers, or a narrows without blocks
abbrev pub line_told : List ℕ → Option Line
line_told part =
    if bytes_eq part (codes "t") then Some (Table [])
    else if bytes_eq part (codes "d") then Some (Delete [])
    else if bytes_eq part (codes "n") then Some (Toll (Narrows []))
    else spelled Three part

-- a line put before others, where all are told
abbrev pub with_line : Option Line → Option LogTold → Option LogTold
with_line None more = None
with_line (Some line) None = None
with_line (Some line) (Some told) = Some (record { lines = line ∷ told.lines; remainder = told.remainder })

-- the parts between line feeds: each is the text of a line, and the last one follows them
abbrev pub parts_told : List (List ℕ) → Option LogTold
parts_told [] = None
parts_told (tail ∷ []) = Some (record { lines = []; remainder = tail })
parts_told (part ∷ next ∷ parts) = with_line (line_told part) (parts_told (next ∷ parts))

-- what bytes after a header tell
abbrev pub lines_told : List ℕ → Option LogTold
lines_told bytes = parts_told (parts_of 10 bytes)

-- what bytes tell, the header of this version first
abbrev pub bytes_told : Version → List ℕ → Option LogTold
bytes_told version bytes = option_and_then lines_told (without_prefix (header_line version) bytes)

-- what was sent is the header of this version, whole lines and bytes after them, where it is told
abbrev pub is_told : Version → Option (List ℕ) → Bool
is_told version None = true
is_told version (Some bytes) = is_some (bytes_told version bytes)

-- bytes that are the text of these lines in a certificate of this version, and after it bytes without a line feed
pub record IsTextOf (version : Version) (told : LogTold) (bytes : List ℕ) : Type 0 where
  pub text : bytes ≡ cert_text version told.lines ++ told.remainder
  pub no_end : lacks 10 told.remainder ≡ true

-- bytes tell lines under a version only where they are the text of these
abbrev pub TextTold : Type 0
TextTold = (version : Version) (bytes : List ℕ) (told : LogTold) → bytes_told version bytes ≡ Some told → IsTextOf version told bytes

-- the log whose text a desk sent to Proof, in a certificate of this version
abbrev pub log_of : Version → DeskState → LogModel
log_of version s = record { told = option_and_then (bytes_told version) (s.trays Proof).sent; faults = s.write_faults }

-- what that log holds and leaves as it is: the borrow of its desk, the version, and all of the desk that no line changes
abbrev pub tray_anchor : GName → Version → DeskState → LogAnchor
tray_anchor borrow version s = record { borrow = borrow; version = Some version; outside = Some (outside_of s) }
