-- What taking the next line does.
use Rattle.std.specs.Prelude.{◌≡◌, ◌≤◌, ◌<◌, ◌+◌, ◌^◌, ℕ, List, Option, true, Result, Ok, Err, IfSome, IsSome, IsSomeAnd, IfOk, IsErrOf, ⊤, length, is_none, if◌then◌else◌}
use Rattle.std.specs.Io.KnownBytes.{prepend_known}
use Rattle.hw_desk.specs.State.{DeskState, Rose}
use Rattle.hw_desk.specs.Calls.{Moves}
use Rattle.hw_model.specs.Problem.{Problem, shape_of}
use Rattle.hw_text.specs.Parts.{parts_of}
use Rattle.hw_cert_lines.specs.declared.line.Line.{Line}
use Rattle.hw_cert.specs.declared.reader.Next.{Next}
use Rattle.hw_cert.specs.declared.reader.Next.TheVariants as nexts
use Rattle.hw_cert.specs.declared.stop.LineStop.{LineStop}
use Rattle.hw_cert.specs.declared.stop.LineStop.TheVariants as stops
use Rattle.hw_cert.specs.Laws.{has_form}
use Rattle.hw_cert.specs.Reader.{ReaderModel}
use Rattle.hw_cert.specs.Stream.{NextLine, ends, comes, bad, too_long, next_of}
use Rattle.hw_cert_lines.specs.Valid.{LineFits}

-- the bytes left to read of a certificate, where they are told: those of the reader and those of the desk
abbrev pub rest_of : ReaderModel → DeskState → Option (List ℕ)
rest_of r s = prepend_known r.pending (s.feeds r.feed).left

-- what comes next, of a reader before these bytes
abbrev pub next_line : ReaderModel → List ℕ → NextLine
next_line r rest = next_of r.shape r.at (parts_of 10 rest)

-- why there is no line
abbrev pub StopsAs : NextLine → LineStop → Type 0
StopsAs next (stops.Form number word) = next ≡ bad number word
StopsAs next stops.Fault = ⊤
StopsAs next stops.TooLong = next ≡ too_long
StopsAs next stops.NoMemory = ⊤

-- the line that comes next, and the reader stands after it; or the end
abbrev pub ComesAs : NextLine → DeskState → Next → Type 0
ComesAs next new (nexts.Line reader line) = IsSomeAnd (rest_of reader new) (λ more. next ≡ comes line reader.at (parts_of 10 more))
ComesAs next new nexts.End = next ≡ ends

-- the answer is what comes next, unless a call fails or memory runs out
abbrev pub Answers : NextLine → DeskState → Result Next LineStop → Type 0
Answers next new (Ok n) = ComesAs next new n
Answers next new (Err stop) = StopsAs next stop

-- the reader of the same certificate stands one line further, or two, after the header
pub record ReadPast (r reader : ReaderModel) (line : Line) : Type 0 where
  pub shape : reader.shape ≡ r.shape
  pub feed : reader.feed ≡ r.feed
  pub most : reader.at.most ≡ r.at.most
  pub version : IsSome reader.at.version
  pub number : reader.at.number ≡ r.at.number + (if is_none r.at.version then 2 else 1)
  pub taken : r.at.taken < reader.at.taken
  pub limit : reader.at.taken ≤ 2 ^ 40
  pub fits : (f : Problem) → shape_of f ≡ r.shape → LineFits f line
  pub formed : has_form r.at.most line ≡ true

abbrev pub GoesOn : ReaderModel → Next → Type 0
GoesOn r (nexts.Line reader line) = ReadPast r reader line
GoesOn r nexts.End = ⊤

-- the next line was taken, or why not
pub record TakesNextLine (r : ReaderModel) (old new : DeskState) (result : Result Next LineStop) : Type 0 where
  -- bytes of the feed were moved, up to one past the limit of the whole, and nothing else happened but faults
  pub moved : (bytes : List ℕ) × Moves r.feed bytes old new × (r.at.taken + length r.pending + length bytes ≤ 2 ^ 40 + 1)
  -- where the bytes are told, the answer is what they read as
  pub next : IfSome (rest_of r old) (λ rest. Answers (next_line r rest) new result)
  pub line : IfOk result (λ n. GoesOn r n)
  pub fault : IsErrOf result stops.Fault → Rose old.read_faults new.read_faults
  -- no read failed, unless the answer says so
  pub kept : (IsErrOf result stops.Fault → ⊥) → new.read_faults ≡ old.read_faults

-- the reader stands after the header, and what comes next is the same there
pub record PastHeader (r reader : ReaderModel) (bytes : List ℕ) (old new : DeskState) : Type 0 where
  pub shape : reader.shape ≡ r.shape
  pub feed : reader.feed ≡ r.feed
  pub most : reader.at.most ≡ r.at.most
  pub version : IsSome reader.at.version
  pub number : reader.at.number ≡ r.at.number + 1
  pub later : r.at.taken ≤ reader.at.taken
  pub room : reader.at.taken + length reader.pending ≡ r.at.taken + length r.pending + length bytes
  pub next : IfSome (rest_of r old) (λ rest. IsSomeAnd (rest_of reader new) (λ more. next_line r rest ≡ next_line reader more))

abbrev pub HeaderAnswers : ReaderModel → List ℕ → DeskState → DeskState → Result ReaderModel LineStop → Type 0
HeaderAnswers r bytes old new (Ok reader) = PastHeader r reader bytes old new
HeaderAnswers r bytes old new (Err stop) = IfSome (rest_of r old) (λ rest. StopsAs (next_line r rest) stop)

-- the header was taken, or why not
pub record TakesHeader (r : ReaderModel) (old new : DeskState) (result : Result ReaderModel LineStop) : Type 0 where
  pub moved : (bytes : List ℕ) × Moves r.feed bytes old new × (r.at.taken + length r.pending + length bytes ≤ 2 ^ 40 + 1) × HeaderAnswers r bytes old new result
  pub fault : IsErrOf result stops.Fault → Rose old.read_faults new.read_faults
  pub kept : (IsErrOf result stops.Fault → ⊥) → new.read_faults ≡ old.read_faults
