-- What is kept of a crew: the lines that were handed on, told or not, the pages and the board.
use Rattle.std.specs.Prelude.{◌≡◌, ℕ, ◌<◌, true, List, [], Some, All, length, take, slice_get, slice_set}
use Rattle.hw_model.specs.Problem.{Problem}
use Rattle.hw_cert_lines.specs.declared.line.Line.{Line}
use Rattle.hw_cert_lines.specs.Tolled.{is_plain}
use Rattle.hw_cert_lines.specs.Lines.{clause_count, last_table, is_closed}
use Rattle.hw_cert_lines.specs.Valid.{LineFits, Valid}
use Rattle.hw_cert_lines.specs.Lemmas.{lemmas_of, IsNew, IsLean}
use Rattle.hw_cert.specs.declared.log.LogStop.{LogStop}
use Rattle.hw_cert.specs.declared.log.LogStop.TheVariants.{Failed, NoMemory}
use Rattle.hw_cert.specs.Logs.{LogModel, WhereTold}
use Rattle.hw_search_laws.specs.Turns.{FailsAt}
use Rattle.hw_search_ledger.specs.Handing.{StopCause}
use Rattle.hw_cert_crews.specs.Pages.{Page}
use Rattle.hw_cert_crews.specs.Crews.{Shared}
use Rattle.hw_turns.specs.declared.board.Board.{Board}
use Rattle.hw_turns.specs.declared.handing.OwnLines.{OwnLines}

-- where a log is told, these are its lines, and nothing follows them
abbrev pub IsSaid : List Line → LogModel → Type 0
IsSaid all log = WhereTold log (λ told. (told.lines ≡ all) × (told.remainder ≡ []))

-- these lines were handed on: all pages are tied to them, and the board tells of them
pub record Crewing (f : Problem) (pages : List Page) (board : Board) (all : List Line) : Type 0 where
  pub shared : Shared f pages all
  pub count : board.clause_lines ≡ clause_count all
  pub lemmas : board.lemmas ≡ length (lemmas_of all)
  pub best : board.best ≡ last_table all

-- own lines that a searcher wrote, none of them on tolls or prices
pub record OwnWell (f : Problem) (own : List Line) : Type 0 where
  pub plain : All (λ line. is_plain line ≡ true) own
  pub fit : All (LineFits f) own
  pub valid : Valid f own
  pub lean : IsLean f own
  pub new : IsNew f own

-- the first `count` own lines of the page at a place were handed on
pub record HandedOn (f : Problem) (own : List Line) (count : ℕ) (numbers : List ℕ) (board : Board) (pages : List Page) (place : ℕ) : Type 0 where
  pub all : List Line
  pub crewing : Crewing f (slice_set pages place (record { lines = take count own; numbers = numbers })) board all
  pub closed : is_closed all ≡ is_closed (take count own)

-- all of them were, and the log has them
pub record HandsAll (f : Problem) (own : List Line) (numbers : List ℕ) (board : Board) (pages : List Page) (place : ℕ) (new : LogModel) : Type 0 where
  pub handed : HandedOn f own (length own) numbers board pages place
  pub said : IsSaid handed.all new

-- what the log has where a line wasn't taken
abbrev pub StopSays : Problem → LogStop → List Line → LogModel → Type 0
StopSays f Failed all new = WhereTold new (λ told. (told.lines ≡ all) × FailsAt f told)
StopSays f NoMemory all new = IsSaid all new

-- some first ones of them were
pub record HandsSome (f : Problem) (stop : LogStop) (own : List Line) (numbers : List ℕ) (board : Board) (pages : List Page) (place : ℕ) (old new : LogModel) : Type 0 where
  pub count : ℕ
  pub inside : count < length own
  pub handed : HandedOn f own count numbers board pages place
  pub cause : StopCause stop old new
  pub says : StopSays f stop handed.all new

-- before that: the page at the place has the first `count` own lines
pub record HandsFrom (f : Problem) (own : List Line) (count : ℕ) (numbers : List ℕ) (board : Board) (pages : List Page) (place : ℕ) (all : List Line) (old : LogModel) : Type 0 where
  pub page : slice_get pages place ≡ Some (record { lines = take count own; numbers = numbers })
  pub crewing : Crewing f pages board all
  pub closed : is_closed all ≡ is_closed (take count own)
  pub said : IsSaid all old

-- whatever pages there are, the own lines from a place on were handed on
abbrev pub HandsOn : Problem → List Line → ℕ → List ℕ → Board → LogModel → List ℕ → Board → LogModel → Type 0
HandsOn f own from numbers board old numbers' board' new = (pages : List Page) (place : ℕ) (all : List Line) → HandsFrom f own from numbers board pages place all old → HandsAll f own numbers' board' pages place new

-- whatever pages there are, some first ones of them were
abbrev pub StopsOn : Problem → List Line → ℕ → List ℕ → Board → LogModel → List ℕ → Board → LogModel → LogStop → Type 0
StopsOn f own from numbers board old numbers' board' new stop = (pages : List Page) (place : ℕ) (all : List Line) → HandsFrom f own from numbers board pages place all old → HandsSome f stop own numbers' board' pages place old new

-- the same of a searcher's own lines
abbrev pub HandsOwn : Problem → OwnLines → List ℕ → Board → LogModel → List ℕ → Board → LogModel → Type 0
HandsOwn f own numbers board old numbers' board' new = HandsOn f own.lines.now own.from numbers board old numbers' board' new

-- and where one of them wasn't taken
abbrev pub StopsOwn : Problem → OwnLines → List ℕ → Board → LogModel → List ℕ → Board → LogModel → LogStop → Type 0
StopsOwn f own numbers board old numbers' board' new stop = StopsOn f own.lines.now own.from numbers board old numbers' board' new stop
