-- What the program does with its command line.
use Rattle.std.specs.Prelude.{◌≡◌, ◌≢◌, ℕ, List, [], Result, Ok, Err, Option, Some, None, IfErr, IfOk, IsErr, IsOk, MatchResult, codes, drop, map, String, string_bytes, Vec}
use Rattle.std.specs.IoError.{error_kind}
use Rattle.std.specs.Vec.Iter.{into_iter_items}
use Rattle.std.specs.declared.alloc.AllocError.{AllocError}
use Rattle.std.specs.declared.alloc.Global.{Global}
use Rattle.std.specs.declared.io.Error.{Error}
use Rattle.std.specs.declared.io.ErrorKind.TheVariants.{OutOfMemory}
use Rattle.std.specs.declared.vec.IntoIter.{IntoIter}
use Rattle.hw_desk.specs.State.{DeskState}
use Rattle.hw_desk.specs.Whole.{SendsText}
use Rattle.hw_desk.specs.declared.desk.DeskFailed.{DeskFailed}
use Rattle.hw_desk.specs.declared.desk.Tray.TheVariants.{Report}
use Rattle.hw_app.specs.Run.{RunMeets}
use Rattle.hw_command.specs.Statuses.{code_of}
use Rattle.hw_command.specs.declared.status.Status.{Status}
use Rattle.hw_command.specs.declared.status.Status.TheVariants.{Optimal, NoMemory, WriteFault}
use Rattle.tidewise.specs.Info.{info_of, info_text}
use Rattle.tidewise.specs.declared.info.Info.{Info}

-- the words after the program's name; none where the command line is no text, for which no memory is taken; if memory ran out for the command line, it ran out for them
pub record AreWordsOf (args : Result (IntoIter (String Global) Global) Error) (words : Result (Vec (String Global) Global) AllocError) : Type 0 where
  pub text : IfOk words (λ some. MatchResult args (λ all. some.items ≡ drop 1 (into_iter_items all)) (λ _. some.items ≡ []))
  pub memory : IfErr args (λ e. error_kind e ≡ OutOfMemory → IsErr words)
  pub no_text : IfErr args (λ e. error_kind e ≢ OutOfMemory → IsOk words)

-- the status after a text was sent whole, or not all of it
abbrev pub sent_status : Status → Result Unit DeskFailed → Status
sent_status status (Ok sent) = status
sent_status status (Err failed) = WriteFault

-- a text was sent to standard output and the process ends by this status; or a proper prefix was sent and a write failed
abbrev pub EndsSending : List ℕ → Status → DeskState → DeskState → ℕ → Type 0
EndsSending text status old new code = (sent : Result Unit DeskFailed) × SendsText Report text old new sent × (code ≡ code_of (sent_status status sent))

-- what is asked about the program is told, and words that ask nothing about it are run
abbrev pub EndsAsked : Option Info → List (List ℕ) → DeskState → DeskState → ℕ → Type 0
EndsAsked (Some info) words old new code = EndsSending (info_text info) Optimal old new code
EndsAsked None words old new code = (s : Status) × RunMeets words old new s × (code ≡ code_of s)

abbrev pub EndsBy : List (List ℕ) → DeskState → DeskState → ℕ → Type 0
EndsBy words old new code = EndsAsked (info_of words) words old new code

-- where memory ran out for the words, that is reported
abbrev pub EndsWords : Result (Vec (String Global) Global) AllocError → DeskState → DeskState → ℕ → Type 0
EndsWords (Ok words) old new code = EndsBy (map string_bytes words.items) old new code
EndsWords (Err e) old new code = EndsSending (codes "memory\n") NoMemory old new code

-- the whole program takes its words from the command line, and ends as they say
abbrev pub ProgramEnds : Result (IntoIter (String Global) Global) Error → DeskState → DeskState → ℕ → Type 0
ProgramEnds args old new code = (words : Result (Vec (String Global) Global) AllocError) × AreWordsOf args words × EndsWords words old new code
