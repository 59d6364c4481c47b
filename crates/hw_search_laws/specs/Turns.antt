-- What a turn does and writes.
use Rattle.std.specs.Prelude.{◌≡◌, ◌⊎◌, ℕ, ◌+◌, ◌*◌, ◌≤◌, Bool, true, false, not, ◌&&◌, ◌==◌, if◌then◌else◌, List, [], ◌∷◌, ◌++◌, Option, Some, None, All, IsSomeAnd, length, filter, fold, take, slice_get, slice_set, is_some}
use Rattle.std.specs.List.{list_any, range_with_len}
use Rattle.hw_model.specs.declared.lit.Lit.{Lit}
use Rattle.hw_model.specs.Problem.{Problem}
use Rattle.hw_model.specs.Rooms.{IsPoint, point_of}
use Rattle.hw_desk.specs.State.{Rose}
use Rattle.hw_cert_lines.specs.declared.line.Line.{Line}
use Rattle.hw_cert_lines.specs.declared.line.Line.TheVariants as lines
use Rattle.hw_cert_lines.specs.Tolled.{is_plain, tariff_of}
use Rattle.hw_cert_lines.specs.Lines.{source_line, clause_count, live, last_table, is_closed}
use Rattle.hw_cert_lines.specs.Valid.{LineFits, ValidAfter, ValidFrom}
use Rattle.hw_cert_lines.specs.Lemmas.{lemmas_of, IsNew, LeanAfter, LeanFrom}
use Rattle.hw_trail_laws.specs.declared.event.Why.{Why}
use Rattle.hw_trail_laws.specs.declared.event.Why.TheVariants as whys
use Rattle.hw_trail_laws.specs.Trails.{reason_clause, decided, back_to, most_events}
use Rattle.hw_trail_laws.specs.Learning.{Learns}
use Rattle.hw_search_laws.specs.declared.outcome.Settled.TheVariants.{Quiet, Conflict}
use Rattle.hw_search_laws.specs.declared.outcome.Turn.{Turn}
use Rattle.hw_search_laws.specs.declared.outcome.Turn.TheVariants as turns
use Rattle.hw_search_laws.specs.Luby.{luby}
use Rattle.hw_search_laws.specs.Branches.{branch_literal}
use Rattle.hw_cert.specs.Logs.{LogTold, LogModel, WhereTold, Grows, IsBegunLine}
use Rattle.hw_search_laws.specs.Searches.{SearchModel, IsSearch, LogFits, room_in, written_at, why_at, kept_numbers}
use Rattle.hw_search_laws.specs.Living.{FewLiveFrom}
use Rattle.hw_search_laws.specs.Settling.{Implies, Settles}
use Rattle.hw_cert_laws.specs.Renewing.{deletion}

-- ---- what is written for a clause

-- the line of a clause that is no stored lemma
abbrev pub why_lines : Problem → Why → List Line
why_lines f (whys.Lemma number clause) = []
why_lines f (whys.Source source clause) = source_line f source clause ∷ []
why_lines f (whys.Priced clause) = lines.Priced clause ∷ []

-- one more clause line, written for the reason of the event at a place
abbrev pub with_written : SearchModel → ℕ → SearchModel
with_written s place = record s { written = slice_set s.written place (Some (s.clause_lines + 1)); clause_lines = s.clause_lines + 1 }

-- the search with the numbers so far, the lines that were written, and the numbers to be named
pub record Cited : Type 0 where
  pub search : SearchModel
  pub lines : List Line
  pub hints : List ℕ

-- what is written and cited, with one more reason: a stored lemma by its number, a written reason by its own, another one by
-- a line of its own
abbrev pub cite_by : Cited → ℕ → Option Why → Option ℕ → Cited
cite_by c place None number = c
cite_by c place (Some (whys.Lemma number clause)) other = record c { hints = c.hints ++ number ∷ [] }
cite_by c place (Some (whys.Source source clause)) (Some number) = record c { hints = c.hints ++ number ∷ [] }
cite_by c place (Some (whys.Source source clause)) None = record { search = with_written c.search place; lines = c.lines ++ source_line c.search.problem source clause ∷ []; hints = c.hints ++ (c.search.clause_lines + 1) ∷ [] }
cite_by c place (Some (whys.Priced clause)) (Some number) = record c { hints = c.hints ++ number ∷ [] }
cite_by c place (Some (whys.Priced clause)) None = record { search = with_written c.search place; lines = c.lines ++ lines.Priced clause ∷ []; hints = c.hints ++ (c.search.clause_lines + 1) ∷ [] }

-- the reason of the event at a place is named, and written where it has no line yet
abbrev pub cite : Cited → ℕ → Cited
cite c place = cite_by c place (why_at c.search.trail place) (written_at c.search place)

-- the reasons at places, in order
abbrev pub cited : SearchModel → List ℕ → Cited
cited s places = fold cite (record { search = s; lines = []; hints = [] }) places

-- the conflict is named, and written where it is no stored lemma
abbrev pub cite_conflict : Cited → Why → Cited
cite_conflict c (whys.Lemma number clause) = record c { hints = c.hints ++ number ∷ [] }
cite_conflict c (whys.Source source clause) = record { search = record c.search { clause_lines = c.search.clause_lines + 1 }; lines = c.lines ++ source_line c.search.problem source clause ∷ []; hints = c.hints ++ (c.search.clause_lines + 1) ∷ [] }
cite_conflict c (whys.Priced clause) = record { search = record c.search { clause_lines = c.search.clause_lines + 1 }; lines = c.lines ++ lines.Priced clause ∷ []; hints = c.hints ++ (c.search.clause_lines + 1) ∷ [] }

-- ---- the lemma

-- the lemma is stored under the number of its line
abbrev pub with_lemma : SearchModel → List Lit → SearchModel
with_lemma s lemma = record s { stored = s.stored ++ record { number = s.clause_lines + 1; clause = lemma } ∷ []; clause_lines = s.clause_lines + 1; lemmas = s.lemmas + 1 }

-- the search with the events up to a level, and their numbers
abbrev pub to_level : SearchModel → ℕ → SearchModel
to_level s level = record s { trail = back_to s.trail level; written = take (length (back_to s.trail level).events) s.written }

-- one more lemma is the 32 * luby(i)-th since the restart before it, where i counts the restarts from 1
abbrev pub restart_is_due : SearchModel → Bool
restart_is_due s = s.since + 1 == 32 * luby (s.restarts + 1)

-- after a lemma: to level 0 where a restart is due, else to the level that was learnt
abbrev pub gone_back : SearchModel → ℕ → SearchModel
gone_back s back = if restart_is_due s then record (to_level s 0) { restarts = s.restarts + 1; since = 0 } else record (to_level s back) { since = s.since + 1 }

-- the live clause lines that are neither lemmas nor reasons of events on the trail, ascending
abbrev pub unkept : List Line → SearchModel → List ℕ
unkept before s = filter (λ id. is_some (live before id) && not (list_any (λ kept. kept == id) (kept_numbers s))) (range_with_len 1 (clause_count before))

-- ---- the answers

-- a turn that settled at this conflict and learnt this from it
pub record Analysed (s mid : SearchModel) (why : Why) (lemma : List Lit) (back : ℕ) (places : List ℕ) : Type 0 where
  pub settles : Settles s mid (Conflict why)
  pub learns : Learns mid.trail (reason_clause why) lemma back places

-- all was quiet, the room was no point, and the search decided by the branching rule; no line was written
pub record DoesDecide (s after : SearchModel) (old new : LogModel) : Type 0 where
  pub mid : SearchModel
  pub settles : Settles s mid Quiet
  pub open_room : IsPoint (room_in mid) → ⊥
  pub decides : IsSomeAnd (branch_literal mid.branching mid.problem (room_in mid)) (λ lit. after ≡ record mid { trail = decided mid.trail lit; written = mid.written ++ None ∷ [] })
  pub no_line : Grows old new (λ was now. now ≡ was)

-- all was quiet at a point, whose timetable was written and is the best from now on
pub record DoesBetter (s after : SearchModel) (old new : LogModel) : Type 0 where
  pub mid : SearchModel
  pub settles : Settles s mid Quiet
  pub point : IsPoint (room_in mid)
  pub better : after ≡ record mid { best = Some (point_of (room_in mid)) }
  pub table : Grows old new (λ was now. now.lines ≡ was.lines ++ lines.Table (point_of (room_in mid)) ∷ [])

-- there was a conflict; a lemma that its analysis permits was written after its reasons, and the search went back
pub record DoesLemma (s after : SearchModel) (old new : LogModel) : Type 0 where
  pub mid : SearchModel
  pub why : Why
  pub lemma : List Lit
  pub back : ℕ
  pub places : List ℕ
  pub analysed : Analysed s mid why lemma back places
  pub some_literal : 1 ≤ length lemma
  pub search : after ≡ gone_back (with_lemma (cite_conflict (cited mid places) why).search lemma) back
  pub written : Grows old new (λ was now.
      let c = cite_conflict (cited mid places) why in
      let all = was.lines ++ c.lines ++ lines.Lemma lemma c.hints ∷ [] in
      now.lines ≡ all ++ deletion (unkept all after))

-- the search stopped where settling left it: no event was dropped, and its stored lemmas are as before
pub record StaysAt (s mid after : SearchModel) : Type 0 where
  pub trail : after.trail ≡ mid.trail
  pub stored : after.stored ≡ s.stored

-- a conflict without literals is written alone
pub record EndsAtConflict (s after : SearchModel) (old new : LogModel) : Type 0 where
  pub mid : SearchModel
  pub why : Why
  pub none : reason_clause why ≡ []
  pub settles : Settles s mid (Conflict why)
  pub stays : StaysAt s mid after
  pub lemmas : after.lemmas ≡ s.lemmas
  pub restarts : after.restarts ≡ s.restarts
  pub since : after.since ≡ s.since
  pub written : Grows old new (λ was now. now.lines ≡ was.lines ++ why_lines s.problem why)

-- the lemma of a conflict has no literals: it was written, and the search is over
pub record EndsAtLemma (s after : SearchModel) (old new : LogModel) : Type 0 where
  pub mid : SearchModel
  pub why : Why
  pub back : ℕ
  pub places : List ℕ
  pub analysed : Analysed s mid why [] back places
  pub some_literal : 1 ≤ length (reason_clause why)
  pub stays : StaysAt s mid after
  pub lemmas : after.lemmas ≡ s.lemmas + 1
  pub written : Grows old new (λ was now.
      let c = cite_conflict (cited mid places) why in
      now.lines ≡ was.lines ++ c.lines ++ lines.Lemma [] c.hints ∷ [])

-- the search ended at a conflict without literals, or at a lemma without literals
pub data DoesEnd (s after : SearchModel) (old new : LogModel) : Type 0 where
  at_conflict : EndsAtConflict s after old new → DoesEnd s after old new
  at_lemma : EndsAtLemma s after old new → DoesEnd s after old new

-- ---- where a turn stopped because memory ran out or the log failed

-- it stopped before its Lemma line was written: implied events follow the trail, and all counts of lemmas are as before
pub record StopsBefore (s after : SearchModel) : Type 0 where
  pub mid : SearchModel
  pub implies : Implies s mid
  pub kept : IsSearch mid
  pub stays : StaysAt s mid after
  pub lemmas : after.lemmas ≡ s.lemmas
  pub restarts : after.restarts ≡ s.restarts
  pub since : after.since ≡ s.since

-- the lemma was added; if memory ran out it may be missing
abbrev pub IsAdded : Turn → SearchModel → SearchModel → SearchModel → Type 0
IsAdded turns.Decided s gone after = after.stored ≡ gone.stored
IsAdded turns.Better s gone after = after.stored ≡ gone.stored
IsAdded turns.Lemma s gone after = after.stored ≡ gone.stored
IsAdded turns.Ended s gone after = after.stored ≡ gone.stored
IsAdded turns.NoMemory s gone after = (after.stored ≡ gone.stored) ⊎ (after.stored ≡ s.stored)
IsAdded turns.LogFailed s gone after = after.stored ≡ gone.stored

-- it stopped past its Lemma line, with nothing written after it: it has gone back, as a turn that answers Lemma
pub record StopsPast (turn : Turn) (s after : SearchModel) (old new : LogModel) : Type 0 where
  pub mid : SearchModel
  pub why : Why
  pub lemma : List Lit
  pub back : ℕ
  pub places : List ℕ
  pub analysed : Analysed s mid why lemma back places
  pub some_literal : 1 ≤ length lemma
  pub search : after ≡ record (gone_back (with_lemma (cite_conflict (cited mid places) why).search lemma) back) { stored = after.stored; over = true }
  pub added : IsAdded turn s (gone_back (with_lemma (cite_conflict (cited mid places) why).search lemma) back) after
  pub written : Grows old new (λ was now.
      let c = cite_conflict (cited mid places) why in
      now.lines ≡ was.lines ++ c.lines ++ lines.Lemma lemma c.hints ∷ [])

-- where lines are told, their number of Lemma lines says which it is
pub data TurnStops (turn : Turn) (s after : SearchModel) (old new : LogModel) : Type 0 where
  before_lemma : StopsBefore s after → TurnStops turn s after old new
  past_lemma : StopsPast turn s after old new → TurnStops turn s after old new

-- what a turn may be about to write after these lines: nothing, a table, a conflict without literals, or a lemma with its reasons and the deletion
pub data Plans (s : SearchModel) (before more : List Line) : Type 0 where
  no_line : more ≡ [] → Plans s before more
  a_table : (mid : SearchModel) → Settles s mid Quiet → IsPoint (room_in mid) → more ≡ lines.Table (point_of (room_in mid)) ∷ [] → Plans s before more
  an_end : (mid : SearchModel) (why : Why) → Settles s mid (Conflict why) → reason_clause why ≡ [] → more ≡ why_lines s.problem why → Plans s before more
  a_lemma : (mid : SearchModel) (why : Why) (lemma : List Lit) (back : ℕ) (places : List ℕ) → Analysed s mid why lemma back places → 1 ≤ length (reason_clause why) → (remainder : List Line) → (1 ≤ length lemma → remainder ≡ deletion (unkept (before ++ (cite_conflict (cited mid places) why).lines ++ lines.Lemma lemma (cite_conflict (cited mid places) why).hints ∷ []) (gone_back (with_lemma (cite_conflict (cited mid places) why).search lemma) back))) → (lemma ≡ [] → remainder ≡ []) → more ≡ (cite_conflict (cited mid places) why).lines ++ lines.Lemma lemma (cite_conflict (cited mid places) why).hints ∷ remainder → Plans s before more

-- a turn that was cut short wrote the first lines of what it was about to write
pub record WritesPart (s : SearchModel) (was now : LogTold) : Type 0 where
  pub plan : List Line
  pub planned : Plans s was.lines plan
  pub upto : ℕ
  pub part : now.lines ≡ was.lines ++ take upto plan

-- the line that failed is the next one, and a proper prefix of its text follows the lines
pub record FailsPart (s : SearchModel) (was now : LogTold) : Type 0 where
  pub written : WritesPart s was now
  pub next : IsSomeAnd (slice_get written.plan written.upto) (λ line. IsBegunLine line now.remainder)

-- the line that failed is of the shape, valid and lean after the lines, and a proper prefix of its text follows them. Where no prices are in force it says nothing of tolls or prices
abbrev pub FailsNext : Problem → LogTold → Type 0
FailsNext f now = (line : Line) × (tariff_of now.lines ≡ None → is_plain line ≡ true) × LineFits f line × ValidAfter f now.lines line × LeanAfter f now.lines line × IsBegunLine line now.remainder

-- the line that failed says nothing of tolls or prices, is of the shape, valid and lean after the lines, and a proper prefix of its text follows them
abbrev pub FailsAt : Problem → LogTold → Type 0
FailsAt f now = (line : Line) × (is_plain line ≡ true) × LineFits f line × ValidAfter f now.lines line × LeanAfter f now.lines line × IsBegunLine line now.remainder

-- the log failed: its faults rose, and some first lines of the turn were written
pub record DoesFail (s after : SearchModel) (old new : LogModel) : Type 0 where
  pub cause : Rose old.faults new.faults
  pub failed : WhereTold new (FailsNext s.problem)
  pub part : Grows old new (FailsPart s)
  pub stops : TurnStops turns.LogFailed s after old new

-- memory ran out: some first lines of the turn were written
pub record WantsMemory (s after : SearchModel) (old new : LogModel) : Type 0 where
  pub part : Grows old new (WritesPart s)
  pub stops : TurnStops turns.NoMemory s after old new

-- what a turn does, by its answer
abbrev pub TurnDoes : SearchModel → LogModel → Turn → SearchModel → LogModel → Type 0
TurnDoes s old turns.Decided after new = DoesDecide s after old new
TurnDoes s old turns.Better after new = DoesBetter s after old new
TurnDoes s old turns.Lemma after new = DoesLemma s after old new
TurnDoes s old turns.Ended after new = DoesEnd s after old new
TurnDoes s old turns.NoMemory after new = WantsMemory s after old new
TurnDoes s old turns.LogFailed after new = DoesFail s after old new

-- the search is over after the answer
abbrev pub is_last : Turn → Bool
is_last turns.Decided = false
is_last turns.Better = false
is_last turns.Lemma = false
is_last turns.Ended = true
is_last turns.NoMemory = true
is_last turns.LogFailed = true

-- how many clause lines a turn may write
abbrev pub lines_of_turn : Problem → Turn → ℕ
lines_of_turn f turns.Decided = 0
lines_of_turn f turns.Better = 0
lines_of_turn f turns.Lemma = most_events f.ships f.slots + 2
lines_of_turn f turns.Ended = most_events f.ships f.slots + 2
lines_of_turn f turns.NoMemory = most_events f.ships f.slots + 2
lines_of_turn f turns.LogFailed = most_events f.ships f.slots + 2

-- lines that are of the problem's shape, valid, lean, and bring no useless lemma. Where no prices are in force they say nothing of tolls or prices
pub record WritesWell (f : Problem) (before more : List Line) : Type 0 where
  pub plain : tariff_of before ≡ None → All (λ line. is_plain line ≡ true) more
  pub fit : All (LineFits f) more
  pub valid : ValidFrom f before more
  pub lean : LeanFrom f before more
  pub new : IsNew f before → IsNew f (before ++ more)

-- the lines of a turn are written well, not many, and few are live after each of them
pub record TurnWrites (f : Problem) (turn : Turn) (was now : LogTold) : Type 0 where
  pub more : List Line
  pub lines : now.lines ≡ was.lines ++ more
  pub well : WritesWell f was.lines more
  pub few : clause_count more ≤ lines_of_turn f turn
  pub few_live : FewLiveFrom f was.lines more

-- what the answer leaves of the fit
abbrev pub FitsAfter : Turn → SearchModel → LogModel → Type 0
FitsAfter turns.Decided after new = WhereTold new (λ now. LogFits now after)
FitsAfter turns.Better after new = WhereTold new (λ now. LogFits now after)
FitsAfter turns.Lemma after new = WhereTold new (λ now. LogFits now after)
FitsAfter turns.Ended after new = WhereTold new (λ now. (now.remainder ≡ []) × (is_closed now.lines ≡ true))
FitsAfter turns.NoMemory after new = WhereTold new (λ now. (now.remainder ≡ []) × (is_closed now.lines ≡ false))
FitsAfter turns.LogFailed after new = WhereTold new (λ now. is_closed now.lines ≡ false)

-- what a turn meets. It needs a search that isn't over, has fewer than 100,000 lemmas, and a log that fits it
pub record TurnMeets (s : SearchModel) (old : LogModel) (turn : Turn) (after : SearchModel) (new : LogModel) : Type 0 where
  pub later : old.faults ≤ new.faults
  pub same_problem : after.problem ≡ s.problem
  pub same_rule : after.branching ≡ s.branching
  pub same_prices : after.prices ≡ s.prices
  pub over : after.over ≡ is_last turn
  pub writes : Grows old new (TurnWrites s.problem turn)
  pub fits : FitsAfter turn after new
  pub best : WhereTold new (λ now. last_table now.lines ≡ after.best)
  pub best_stays : is_last turn ≡ true → after.best ≡ s.best
  pub lemmas : WhereTold new (λ now. length (lemmas_of now.lines) ≡ after.lemmas)
  pub does : TurnDoes s old turn after new
