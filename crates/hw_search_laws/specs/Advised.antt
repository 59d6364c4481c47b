-- What advice does to a search and its log, and what a turn with advice does.
use Rattle.std.specs.Prelude.{◌≡◌, ℕ, ◌+◌, ◌<◌, ◌≤◌, true, List, [], ◌∷◌, ◌++◌, Some, None, All, IfSome, IsSome}
use Rattle.hw_model.specs.declared.lit.Lit.{Lit}
use Rattle.hw_model.specs.declared.lit.LitTruth.TheVariants.{Free}
use Rattle.hw_model.specs.Problem.{Problem, shape_of}
use Rattle.hw_model.specs.Lits.{lit_fits}
use Rattle.hw_model.specs.Narrowing.{truth}
use Rattle.hw_desk.specs.State.{Rose}
use Rattle.hw_price_laws.specs.declared.toll.Toll.{Toll}
use Rattle.hw_cert_lines.specs.declared.line.Line.{Line}
use Rattle.hw_cert_lines.specs.declared.line.Line.TheVariants as lines
use Rattle.hw_cert_lines.specs.Valid.{LineFits, ValidAfter, ValidFrom}
use Rattle.hw_cert_lines.specs.Lemmas.{lemmas_of, IsNew, LeanAfter, LeanFrom}
use Rattle.hw_trail_laws.specs.declared.event.Event.{Event}
use Rattle.hw_trail_laws.specs.declared.event.Why.TheVariants as whys
use Rattle.hw_trail_laws.specs.Trails.{decided}
use Rattle.hw_cert.specs.Logs.{LogTold, LogModel, WhereTold, Grows, IsBegunLine}
use Rattle.hw_search_laws.specs.declared.outcome.Bounded.{Bounded}
use Rattle.hw_search_laws.specs.declared.outcome.Bounded.TheVariants as bounds
use Rattle.hw_search_laws.specs.declared.outcome.Turn.{Turn}
use Rattle.hw_search_laws.specs.declared.outcome.Turn.TheVariants as turns
use Rattle.hw_search_laws.specs.Living.{FewLiveFrom}
use Rattle.hw_search_laws.specs.Prices.{with_bound}
use Rattle.hw_search_laws.specs.Searches.{SearchModel, IsSearch, LogFits, room_in}
use Rattle.hw_search_laws.specs.Settling.{AllQuiet, with_events}
use Rattle.hw_search_laws.specs.Turns.{TurnMeets}

-- ---- lines of advice

-- lines of the problem's shape, valid and lean, with no useless lemma; some may speak of tolls and prices
pub record WritesGood (f : Problem) (before more : List Line) : Type 0 where
  pub fit : All (LineFits f) more
  pub valid : ValidFrom f before more
  pub lean : LeanFrom f before more
  pub new : IsNew f before → IsNew f (before ++ more)

-- these lines are good, have no lemma, few clauses are live after each, and the log fits the search after them
pub record HeedWrites (s after : SearchModel) (was now : LogTold) : Type 0 where
  pub more : List Line
  pub lines : now.lines ≡ was.lines ++ more
  pub good : WritesGood s.problem was.lines more
  pub no_lemma : lemmas_of more ≡ []
  pub few_live : FewLiveFrom s.problem was.lines more
  pub fits : LogFits now after

-- a search with one more event that a clause of prices implied, and with its line
abbrev pub with_priced : SearchModel → Lit → List Lit → SearchModel
with_priced s lit clause = record s { trail = (with_events s (record { lit = lit; level = s.trail.level; why = Some (whys.Priced clause) } ∷ [])).trail; written = s.written ++ Some (s.clause_lines + 1) ∷ []; clause_lines = s.clause_lines + 1; priced = s.priced + 1 }

-- ---- heeding

-- implied events followed the trail and tolls were declared, and besides the numbers of lines and the tariff in force nothing changed
pub record Heeds (s after : SearchModel) (old new : LogModel) : Type 0 where
  pub more : List Event
  pub implied : All (λ event. IsSome event.why) more
  pub trail : after.trail ≡ (with_events s more).trail
  pub tolls : List Toll
  pub declared : after.prices.tolls ≡ s.prices.tolls ++ tolls
  pub same_bound : after.prices.bound ≡ s.prices.bound
  pub same : after ≡ record s { trail = after.trail; written = after.written; prices = after.prices; clause_lines = after.clause_lines; priced = after.priced }
  pub kept : IsSearch after
  pub same_faults : new.faults ≡ old.faults
  pub writes : Grows old new (HeedWrites s after)

-- one line of advice was taken, and besides what it changes nothing did
pub record HeedsLine (s : SearchModel) (line : Line) (after : SearchModel) (old new : LogModel) : Type 0 where
  pub kept : IsSearch after
  pub same_faults : new.faults ≡ old.faults
  pub writes : Grows old new (λ was now. (now.lines ≡ was.lines ++ line ∷ []) × HeedWrites s after was now)

-- ---- a bound

-- a lower bound was written, after the lines of the advice that it needed; nothing else changed but the numbers of lines and the prices
pub record Lowers (s after : SearchModel) (old new : LogModel) : Type 0 where
  pub mid : SearchModel
  pub then : LogModel
  pub heeds : Heeds s mid old then
  pub bound : ℕ
  pub lower : IfSome s.prices.bound (λ last. bound < last)
  pub line : HeedsLine mid (lines.Bound bound) after then new
  pub after_is : after ≡ record mid { prices = with_bound mid.prices bound }

-- ---- what a turn with advice does

-- all was quiet, and the search decided by a literal that the adviser preferred; no line was written
pub record Prefers (s : SearchModel) (old : LogModel) (turn : Turn) (after : SearchModel) (new : LogModel) : Type 0 where
  pub answer : turn ≡ turns.Decided
  pub quiet : AllQuiet s
  pub lit : Lit
  pub fits : lit_fits (shape_of s.problem) lit ≡ true
  pub is_open : truth (room_in s) lit ≡ Free
  pub decides : after ≡ record s { trail = decided s.trail lit; written = s.written ++ None ∷ [] }
  pub kept : IsSearch after
  pub same_log : new ≡ old

-- a line that is of the shape, valid and lean after these, of which a proper prefix follows them
abbrev pub IsCutOff : Problem → LogTold → Type 0
IsCutOff f now = (line : Line) × LineFits f line × ValidAfter f now.lines line × LeanAfter f now.lines line × IsBegunLine line now.remainder

-- why advice stopped: memory ran out and nothing was written, or the log failed within a line
abbrev pub StopsBy : Problem → Turn → LogModel → LogModel → Type 0
StopsBy f turns.Decided old new = ⊥
StopsBy f turns.Better old new = ⊥
StopsBy f turns.Lemma old new = ⊥
StopsBy f turns.Ended old new = ⊥
StopsBy f turns.NoMemory old new = new ≡ old
StopsBy f turns.LogFailed old new = Rose old.faults new.faults × WhereTold new (IsCutOff f) × Grows old new (λ was now. now.lines ≡ was.lines)

-- advice stopped: the search is over, and all else of it is as it was
pub record AdviceStopped (s : SearchModel) (old : LogModel) (turn : Turn) (after : SearchModel) (new : LogModel) : Type 0 where
  pub over : after ≡ record s { over = true }
  pub later : old.faults ≤ new.faults
  pub cause : StopsBy s.problem turn old new

-- what follows advice: a turn as without it, a decision by preference, or a stop
pub data FollowsAdvice (s : SearchModel) (old : LogModel) (turn : Turn) (after : SearchModel) (new : LogModel) : Type 0 where
  by_turn : TurnMeets s old turn after new → FollowsAdvice s old turn after new
  by_preference : Prefers s old turn after new → FollowsAdvice s old turn after new
  by_stop : AdviceStopped s old turn after new → FollowsAdvice s old turn after new

-- what a turn with advice meets. It needs what a turn needs
pub record AdvisedMeets (s : SearchModel) (old : LogModel) (turn : Turn) (after : SearchModel) (new : LogModel) : Type 0 where
  pub mid : SearchModel
  pub then : LogModel
  pub heeds : Heeds s mid old then
  pub follows : FollowsAdvice mid then turn after new

-- ---- what the call for a bound does

-- the call stopped, perhaps after lines of advice
pub record StopsBound (s : SearchModel) (old : LogModel) (turn : Turn) (after : SearchModel) (new : LogModel) : Type 0 where
  pub mid : SearchModel
  pub then : LogModel
  pub heeds : Heeds s mid old then
  pub stopped : AdviceStopped mid then turn after new

-- what the call for a bound meets, by its answer. It needs what a turn needs
abbrev pub BoundMeets : SearchModel → LogModel → Bounded → SearchModel → LogModel → Type 0
BoundMeets s old bounds.Lower after new = Lowers s after old new
BoundMeets s old bounds.Same after new = (after ≡ s) × (new ≡ old)
BoundMeets s old bounds.NoMemory after new = StopsBound s old turns.NoMemory after new
BoundMeets s old bounds.LogFailed after new = StopsBound s old turns.LogFailed after new
