-- What contracts see of a log, and what taking a line does.
use Rattle.std.specs.Borrow.{GName}
use Rattle.std.specs.Prelude.{◌≡◌, ℕ, ◌<◌, ◌≤◌, Bool, List, [], ◌∷◌, ◌++◌, Option, Some, None, Result, Ok, Err, IfSome, IsSomeAnd, length, take}
use Rattle.hw_cert_lines.specs.declared.line.Line.{Line}
use Rattle.hw_cert.specs.Texts.{line_text}
use Rattle.hw_desk.specs.State.{FeedState, TrayState, DeskState, Rose}
use Rattle.hw_desk.specs.declared.desk.Feed.{Feed}
use Rattle.hw_desk.specs.declared.desk.Tray.TheVariants.{Report, Proof}
use Rattle.hw_cert.specs.declared.log.LogStop.{LogStop}
use Rattle.hw_cert.specs.declared.version.Version.{Version}
use Rattle.hw_cert.specs.declared.log.LogStop.TheVariants.{Failed, NoMemory}

-- the lines so far, and the bytes after them
pub record LogTold : Type 0 where
  pub lines : List Line
  pub remainder : List ℕ

-- what contracts see of a log: lines and the bytes after them, told together or untold; how often the log has failed
pub record LogModel : Type 0 where
  pub told : Option LogTold
  pub faults : ℕ

-- all of a desk that no line of a log changes: what is held, the feeds, Report, that Proof was made and under which name, and the count of failed begins and reads
pub record Outside : Type 0 where
  pub held : List ℕ → Option (List ℕ)
  pub feeds : Feed → FeedState
  pub report : TrayState
  pub made : Bool
  pub named : Option (List ℕ)
  pub read_faults : ℕ

abbrev pub outside_of : DeskState → Outside
outside_of s = record { held = s.held; feeds = s.feeds; report = s.trays Report; made = (s.trays Proof).made; named = (s.trays Proof).name; read_faults = s.read_faults }

-- what a log holds and leaves as it is: the borrow, and if it is over a desk, the version of its certificate and all that is outside it
pub record LogAnchor : Type 0 where
  pub borrow : GName
  pub version : Option Version
  pub outside : Option Outside

-- a log over no desk
abbrev pub unanchored : LogAnchor
unanchored = record { borrow = 0; version = None; outside = None }

-- a condition on lines is met where they are untold
abbrev pub WhereTold : LogModel → (LogTold → Type 0) → Type 0
WhereTold log P = IfSome log.told P

-- nothing follows the lines
abbrev pub IsWhole : LogModel → Type 0
IsWhole log = WhereTold log (λ told. told.remainder ≡ [])

-- a log without lines, and nothing after them
abbrev pub IsEmpty : LogModel → Type 0
IsEmpty log = WhereTold log (λ told. (told.lines ≡ []) × (told.remainder ≡ []))

-- what is told after a call was told before it, and this holds of the two. Untold lines never become told
abbrev pub Grows : LogModel → LogModel → (LogTold → LogTold → Type 0) → Type 0
Grows old new P = WhereTold new (λ now. IsSomeAnd old.told (λ was. P was now))

-- a line's text with its end
abbrev pub ended_text : Line → List ℕ
ended_text line = line_text line ++ 10 ∷ []

-- a line that failed: a proper prefix of its text follows the lines, its line feed counted
abbrev pub IsBegunLine : Line → List ℕ → Type 0
IsBegunLine line bytes = (n : ℕ) × (n < length (ended_text line)) × (bytes ≡ take n (ended_text line))

-- the lines told after a line was taken, or not
abbrev pub TellsLine : Line → Result Unit LogStop → LogTold → LogTold → Type 0
TellsLine line (Ok done) was now = (now.lines ≡ was.lines ++ line ∷ []) × (now.remainder ≡ [])
TellsLine line (Err Failed) was now = (now.lines ≡ was.lines) × IsBegunLine line now.remainder
TellsLine line (Err NoMemory) was now = now ≡ was

-- a line fails only where the count of faults rose; else the count is as before
abbrev pub LineCause : LogModel → LogModel → Result Unit LogStop → Type 0
LineCause old new (Ok done) = new.faults ≡ old.faults
LineCause old new (Err Failed) = Rose old.faults new.faults
LineCause old new (Err NoMemory) = new.faults ≡ old.faults

-- what the call that takes a line does
pub record TakesLine (line : Line) (old new : LogModel) (result : Result Unit LogStop) : Type 0 where
  pub later : old.faults ≤ new.faults
  pub lines : Grows old new (TellsLine line result)
  pub cause : LineCause old new result

-- a log that keeps its lines in memory
abbrev pub memory_log : List Line → LogModel
memory_log lines = record { told = Some (record { lines = lines; remainder = [] }); faults = 0 }
