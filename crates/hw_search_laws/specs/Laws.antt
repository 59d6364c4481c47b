-- The laws of a search: what it keeps, and that the lines it writes are valid, lean and new and fit it.
use Rattle.std.specs.Prelude.{◌≡◌, ◌⊎◌, ℕ, ◌+◌, ◌-◌, ◌^◌, ◌<◌, ◌≤◌, true, false, List, [], ◌∷◌, ◌++◌, Option, Some, None, All, Contains, IfSome, IsSome, IsSomeAnd, IsTrue, length, map, take}
use Rattle.std.specs.List.{range_with_len}
use Rattle.hw_model.specs.declared.limits.TheConstants.{MOST_CARGO}
use Rattle.hw_model.specs.declared.lit.Lit.{Lit}
use Rattle.hw_model.specs.declared.lit.LitTruth.TheVariants.{Free}
use Rattle.hw_model.specs.declared.narrowing.Narrowed.TheVariants.{Cut}
use Rattle.hw_model.specs.declared.source.Source.{Source}
use Rattle.hw_model.specs.Problem.{Problem, shape_of}
use Rattle.hw_model.specs.Limits.{IsFlat}
use Rattle.hw_model.specs.Timetables.{Permits, cargo, beats, IsBest, NonePermitted}
use Rattle.hw_model.specs.Lits.{lit_fits, IsClause}
use Rattle.hw_model.specs.Rooms.{RoomModel, RoomFits, IsPoint, point_of, room_count}
use Rattle.hw_model.specs.Narrowing.{truth}
use Rattle.hw_model.specs.Replay.{narrowing}
use Rattle.hw_cert_lines.specs.declared.line.Line.{Line}
use Rattle.hw_cert_lines.specs.declared.line.Line.TheVariants as lines
use Rattle.hw_cert_lines.specs.Tolled.{is_plain, tariff_of}
use Rattle.hw_cert_lines.specs.Lines.{source_line, clause_count, live, is_closed, last_priced}
use Rattle.hw_cert_lines.specs.Valid.{LineFits, ValidAfter, hinted}
use Rattle.hw_cert_lines.specs.Lemmas.{LeanAfter, lemma_of, lemmas_of, IsNew}
use Rattle.hw_trail_laws.specs.declared.event.Event.{Event}
use Rattle.hw_trail_laws.specs.declared.event.Why.{Why}
use Rattle.hw_trail_laws.specs.declared.event.Why.TheVariants as whys
use Rattle.hw_trail_laws.specs.Trails.{trail_shape, reason_clause, decided, most_events}
use Rattle.hw_trail_laws.specs.Learning.{Learns, chain_of}
use Rattle.hw_search_laws.specs.declared.limits.TheConstants.{MOST_BUDGET, MOST_PRICED}
use Rattle.hw_search_laws.specs.declared.outcome.Branching.{Branching}
use Rattle.hw_search_laws.specs.Luby.{luby}
use Rattle.hw_search_laws.specs.Branches.{branch_literal}
use Rattle.hw_cert.specs.Logs.{LogTold, LogModel, WhereTold, Grows, IsEmpty}
use Rattle.hw_search_laws.specs.Searches.{SearchModel, new_search, IsSearch, IsReason, HasLine, NumbersStay, PricesShow, OfBetter, FitsOpen, LiveKept, LogFits, room_in, best_cargo, written_at, why_at, kept_numbers}
use Rattle.hw_search_laws.specs.Settling.{AllQuiet, with_events, IsConflict}
use Rattle.hw_search_laws.specs.Turns.{why_lines, with_written, Cited, cited, cite_conflict, with_lemma, to_level, gone_back, unkept, DoesEnd, TurnMeets, WritesWell, is_last}
use Rattle.hw_cert_laws.specs.Renewing.{deletion}
use Rattle.hw_search_laws.specs.declared.outcome.Bounded.TheVariants as bounds
use Rattle.hw_search_laws.specs.declared.outcome.Solved.{Solved}
use Rattle.hw_search_laws.specs.declared.outcome.Solved.TheVariants as answers
use Rattle.hw_search_laws.specs.declared.outcome.Turn.{Turn}
use Rattle.hw_search_laws.specs.declared.outcome.Turn.TheVariants as turns
use Rattle.hw_price_laws.specs.declared.limits.TheConstants.{MOST_TOLLS}
use Rattle.hw_price_laws.specs.declared.tariff.Tariff.{Tariff}
use Rattle.hw_price_laws.specs.declared.toll.Toll.{Toll}
use Rattle.hw_price_laws.specs.Tolls.{IsToll}
use Rattle.hw_price_laws.specs.Prices.{TariffFits, PricesBound}
use Rattle.hw_search_laws.specs.Prices.{bound_tariff, prices_with_toll, with_tariff, with_bound, DuesAscend}
use Rattle.hw_search_laws.specs.Advised.{Heeds, HeedsLine, AdvisedMeets, BoundMeets, with_priced}
use Rattle.hw_search_laws.specs.Living.{FewLive, FewLiveThroughout, FewLiveFrom}
use Rattle.hw_search_laws.specs.Closing.{IsReached, Closes}
use Rattle.hw_search_laws.specs.Proposing.{TakesProposal}
use Rattle.hw_search_laws.specs.Solving.{SolveWrites, AnswerMeans}
use Rattle.hw_search_laws.specs.Proving.{ProveMeets, Proving, IsEndOf}

-- ---- the beginning

-- a new search keeps what it must, and fits a log without lines
abbrev pub NewSearch : Type 0
NewSearch = (f : Problem) (branching : Branching) (told : LogTold) → IsFlat f → told.lines ≡ [] → told.remainder ≡ [] → IsSearch (new_search f branching) × LogFits told (new_search f branching)

-- ---- what each line leaves

-- a line is of the problem's shape, valid after these lines, and lean. Where no prices are in force it says nothing of tolls or prices
pub record GoodLine (f : Problem) (before : List Line) (line : Line) : Type 0 where
  pub plain : tariff_of before ≡ None → is_plain line ≡ true
  pub fits : LineFits f line
  pub valid : ValidAfter f before line
  pub lean : LeanAfter f before line

-- the fit goes from one search to another with these lines, also its exact part
pub record FitGoes (before : List Line) (s : SearchModel) (after : List Line) (u : SearchModel) : Type 0 where
  pub opened : FitsOpen after u
  pub kept : LiveKept before s → LiveKept after u

-- a reason that a source gave, at the place of an event for which no line was written yet
abbrev pub ReasonLine : Type 0
ReasonLine = (s : SearchModel) (before : List Line) (place : ℕ) (source : Source) (clause : List Lit) → IsSearch s → FitsOpen before s → why_at s.trail place ≡ Some (whys.Source source clause) → written_at s place ≡ None → s.clause_lines + 1 < 2 ^ 32
    → GoodLine s.problem before (source_line s.problem source clause) × FitGoes before s (before ++ source_line s.problem source clause ∷ []) (with_written s place)

-- the line of a conflict that is no stored lemma stands, and nobody keeps its number
pub record ConflictMeets (s : SearchModel) (before : List Line) (why : Why) (line : Line) : Type 0 where
  pub good : GoodLine s.problem before line
  pub fits : 1 ≤ length (reason_clause why) → FitsOpen (before ++ line ∷ []) (record s { clause_lines = s.clause_lines + 1 })
  pub closes : reason_clause why ≡ [] → is_closed (before ++ line ∷ []) ≡ true

-- a conflict that a source or prices gave
abbrev pub ConflictLine : Type 0
ConflictLine = (s : SearchModel) (before : List Line) (why : Why) (line : Line) → IsSearch s → FitsOpen before s → IsConflict s why → why_lines s.problem why ≡ line ∷ [] → s.clause_lines + 1 < 2 ^ 32 → ConflictMeets s before why line

-- ---- tolls and prices

-- a line is of the problem's shape, valid after these lines, and lean
pub record PriceLine (f : Problem) (before : List Line) (line : Line) : Type 0 where
  pub fits : LineFits f line
  pub valid : ValidAfter f before line
  pub lean : LeanAfter f before line

-- a line that changes the prices, and what it leaves
pub record PriceMeets (s : SearchModel) (before : List Line) (line : Line) (after : SearchModel) : Type 0 where
  pub good : PriceLine s.problem before line
  pub no_lemma : lemma_of line ≡ None
  pub fits : FitGoes before s (before ++ line ∷ []) after
  pub few_live : LiveKept before s → FewLiveFrom s.problem before (line ∷ [])

-- what the line leaves is a search, whatever a log tells, and the line is good after any lines that fit
pub record PriceTaken (s : SearchModel) (line : Line) (after : SearchModel) : Type 0 where
  pub kept : IsSearch after
  pub meets : (before : List Line) → FitsOpen before s → PriceMeets s before line after

-- a toll of the problem is declared
abbrev pub TollLine : Type 0
TollLine = (s : SearchModel) (toll : Toll) → IsSearch s → IsToll s.problem toll → length s.prices.tolls < MOST_TOLLS
    → PriceTaken s (lines.Toll toll) (record s { prices = prices_with_toll s.prices toll })

-- a tariff on the declared tolls comes into force
abbrev pub TariffLine : Type 0
TariffLine = (s : SearchModel) (tariff : Tariff) → IsSearch s → TariffFits (length s.prices.tolls) tariff → DuesAscend tariff
    → PriceTaken s (lines.Tariff tariff) (record s { prices = with_tariff s.prices tariff })

-- a bound of the whole problem below the last one, by the tariff in force
abbrev pub BoundLine : Type 0
BoundLine = (s : SearchModel) (bound : ℕ) → IsSearch s → bound ≤ MOST_CARGO → IfSome s.prices.bound (λ last. bound < last) → IsSomeAnd s.prices.tariff (λ tariff. (1 ≤ tariff.scale) × PricesBound s.problem s.prices.tolls tariff bound)
    → PriceTaken s (lines.Bound bound) (record s { prices = with_bound s.prices bound })

-- a literal is implied by a clause that the prices in force show, and the clause is written
abbrev pub PricedLine : Type 0
PricedLine = (s : SearchModel) (clause : List Lit) (lit : Lit) → IsSearch s → IsClause (shape_of s.problem) clause → PricesShow s clause → lit_fits (trail_shape s.trail) lit ≡ true → truth (room_in s) lit ≡ Free → narrowing clause (room_in s) ≡ Cut lit → s.clause_lines + 1 < 2 ^ 32 → s.priced < MOST_PRICED
    → PriceTaken s (lines.Priced clause) (with_priced s lit clause)

-- what the prices in force show is true of each permitted timetable that beats the best
abbrev pub PricesTrue : Type 0
PricesTrue = (s : SearchModel) (clause : List Lit) → IsSearch s → IsClause (shape_of s.problem) clause → PricesShow s clause → IsReason s (whys.Priced clause)

-- where the best reaches the last bound, the tariff that shows the bound leaves nothing
abbrev pub ReachedShown : Type 0
ReachedShown = (s : SearchModel) → IsSearch s → IsReached s → s.prices.tariff ≡ bound_tariff s.prices → PricesShow s []

-- what the prices in force leave nothing of is closed by a line, also after the last lemma of the largest budget
abbrev pub LastLine : Type 0
LastLine = (s : SearchModel) → IsSearch s → s.over ≡ false → s.lemmas ≤ MOST_BUDGET → PricesShow s [] → (before : List Line) → FitsOpen before s → PriceLine s.problem before last_priced × (LiveKept before s → FewLiveFrom s.problem before (last_priced ∷ []))

-- advice that is heeded in parts is heeded
abbrev pub HeedsOn : Type 0
HeedsOn = ((s : SearchModel) (log : LogModel) → IsSearch s → WhereTold log (λ told. LogFits told s) → Heeds s s log log)
    × ((s mid after : SearchModel) (old then new : LogModel) → Heeds s mid old then → Heeds mid after then new → Heeds s after old new)

-- one line of advice that a search takes is heeded
abbrev pub HeedsOne : Type 0
HeedsOne = (s : SearchModel) (line : Line) (after : SearchModel) (old new : LogModel) → WhereTold old (λ told. LogFits told s) → new.faults ≡ old.faults → PriceTaken s line after → Grows old new (λ was now. (now.lines ≡ was.lines ++ line ∷ []) × (now.remainder ≡ []))
    → HeedsLine s line after old new

-- ---- a whole solution with advice

-- it has no memory to begin, or begins, and goes on through turns and bounds
pub record ProvingGoesOn (f : Problem) (budget : ℕ) : Type 0 where
  pub no_search : (log : LogModel) → IsEmpty log → ProveMeets f budget log (answers.NoMemory None) None log
  pub begins : (branching : Branching) (log : LogModel) → IsFlat f → IsEmpty log → Proving f budget (new_search f branching) log log
  pub turns : (s after : SearchModel) (turn : Turn) (old here new : LogModel) → Proving f budget s old here → s.lemmas < budget → is_last turn ≡ false → AdvisedMeets s here turn after new → Proving f budget after old new
  pub lower : (s after : SearchModel) (old here new : LogModel) → Proving f budget s old here → BoundMeets s here bounds.Lower after new → Proving f budget after old new
  pub proposed : (s after : SearchModel) (old here new : LogModel) → Proving f budget s old here → TakesProposal s after here new → Proving f budget after old new
  pub same : (s after : SearchModel) (old here new : LogModel) → Proving f budget s old here → BoundMeets s here bounds.Same after new → Proving f budget after old new

-- what its answers meet, with the bound of the search
pub record ProvingEnds (f : Problem) (budget : ℕ) (s : SearchModel) (old here : LogModel) : Type 0 where
  pub spent : budget ≤ s.lemmas → (IsReached s → ⊥) → ProveMeets f budget old (answers.Unfinished s.best) s.prices.bound here
  pub ended : (after : SearchModel) (new : LogModel) → s.lemmas < budget → AdvisedMeets s here turns.Ended after new → (answer : Solved) → IsEndOf f after.best answer → ProveMeets f budget old answer after.prices.bound new
  pub stopped : (after : SearchModel) (new : LogModel) → s.lemmas < budget → AdvisedMeets s here turns.NoMemory after new → ProveMeets f budget old (answers.NoMemory after.best) after.prices.bound new
  pub failed : (after : SearchModel) (new : LogModel) → s.lemmas < budget → AdvisedMeets s here turns.LogFailed after new → ProveMeets f budget old answers.LogFailed after.prices.bound new
  pub closed : (after : SearchModel) (new : LogModel) → Closes s after here new → (answer : Solved) → IsEndOf f after.best answer → ProveMeets f budget old answer after.prices.bound new
  pub bound_stopped : (after : SearchModel) (new : LogModel) → BoundMeets s here bounds.NoMemory after new → ProveMeets f budget old (answers.NoMemory after.best) after.prices.bound new
  pub bound_failed : (after : SearchModel) (new : LogModel) → BoundMeets s here bounds.LogFailed after new → ProveMeets f budget old answers.LogFailed after.prices.bound new

abbrev pub ProvingMeets : Type 0
ProvingMeets = (f : Problem) (budget : ℕ) → ProvingGoesOn f budget × ((s : SearchModel) (old here : LogModel) → IsSearch s → Proving f budget s old here → ProvingEnds f budget s old here)

-- where no prices are in force a turn writes nothing of them
abbrev pub PlainTurn : Type 0
PlainTurn = (s : SearchModel) (old : LogModel) (turn : Turn) (after : SearchModel) (new : LogModel) → s.prices.tariff ≡ None → WhereTold old (λ told. LogFits told s) → TurnMeets s old turn after new
    → Grows old new (λ was now. (more : List Line) × (now.lines ≡ was.lines ++ more) × All (λ line. is_plain line ≡ true) more)

-- a permitted timetable that beats the best, found or offered
abbrev pub TableLine : Type 0
TableLine = (s : SearchModel) (before : List Line) (table : List ℕ) (c : ℕ) → IsSearch s → FitsOpen before s → Permits s.problem table → cargo s.problem table ≡ Some c → IsTrue (beats c (best_cargo s))
    → GoodLine s.problem before (lines.Table table) × FitGoes before s (before ++ lines.Table table ∷ []) (record s { best = Some table }) × IsSearch (record s { best = Some table })

-- the timetable of a quiet point room is such a timetable
abbrev pub PointTable : Type 0
PointTable = (s : SearchModel) → IsSearch s → AllQuiet s → IsPoint (room_in s) → Permits s.problem (point_of (room_in s)) × (c : ℕ) × (cargo s.problem (point_of (room_in s)) ≡ Some c) × IsTrue (beats c (best_cargo s))

-- one deletion makes the fit exact
abbrev pub DeleteLine : Type 0
DeleteLine = (s : SearchModel) (before : List Line) → FitsOpen before s → ((ids : List ℕ) → unkept before s ≡ ids → (1 ≤ length ids → GoodLine s.problem before (lines.Delete ids))) × FitsOpen (before ++ deletion (unkept before s)) s × LiveKept (before ++ deletion (unkept before s)) s

-- ---- what changes without a line

-- what implied events, a decision and going back leave of the fit of lines
pub record FitChanges (s : SearchModel) (before : List Line) : Type 0 where
  pub implied : (more : List Event) → FitGoes before s before (with_events s more)
  pub decision : (lit : Lit) → FitGoes before s before (record s { trail = decided s.trail lit; written = s.written ++ None ∷ [] })
  pub back : (level : ℕ) → FitsOpen before (to_level s level)

abbrev pub FitKept : Type 0
FitKept = (s : SearchModel) (before : List Line) → IsSearch s → FitsOpen before s → FitChanges s before

-- an implied literal, a decision and a better timetable each leave a search. Where prices implied the literal, its line comes with it
pub record SearchChanges (s : SearchModel) : Type 0 where
  pub implied : (lit : Lit) (why : Why) → lit_fits (trail_shape s.trail) lit ≡ true → IsClause (trail_shape s.trail) (reason_clause why) → truth (room_in s) lit ≡ Free → narrowing (reason_clause why) (room_in s) ≡ Cut lit → IsReason s why → HasLine None why → IsSearch (with_events s (record { lit = lit; level = s.trail.level; why = Some why } ∷ []))
  pub decision : (lit : Lit) → AllQuiet s → lit_fits (trail_shape s.trail) lit ≡ true → truth (room_in s) lit ≡ Free → IsSearch (record s { trail = decided s.trail lit; written = s.written ++ None ∷ [] })
  pub better : (table : List ℕ) (c : ℕ) → Permits s.problem table → cargo s.problem table ≡ Some c → IsTrue (beats c (best_cargo s)) → IsSearch (record s { best = Some table })

abbrev pub SearchKept : Type 0
SearchKept = (s : SearchModel) → IsSearch s → SearchChanges s

-- a reason that was made under an older best is one under a better best
abbrev pub ReasonRises : Type 0
ReasonRises = (s : SearchModel) (table : List ℕ) (c : ℕ) (why : Why) → cargo s.problem table ≡ Some c → IsTrue (beats c (best_cargo s)) → IsReason s why → IsReason (record s { best = Some table }) why

-- ---- a whole turn that found a lemma

-- the reasons and the conflict that are written, and then the lemma
abbrev pub lemma_lines : Cited → List Lit → List Line
lemma_lines c lemma = c.lines ++ lines.Lemma lemma c.hints ∷ []

-- the lines of a lemma are written well and fit the search after it, and few are written
pub record LemmaMeets (s : SearchModel) (before : List Line) (why : Why) (lemma : List Lit) (back : ℕ) (places : List ℕ) (c : Cited) (after : SearchModel) : Type 0 where
  pub hints : hinted (before ++ c.lines) c.hints ≡ chain_of s.trail places (reason_clause why)
  pub well : WritesWell s.problem before (lemma_lines c lemma ++ deletion (unkept (before ++ lemma_lines c lemma) after))
  pub fits : FitsOpen ((before ++ lemma_lines c lemma) ++ deletion (unkept (before ++ lemma_lines c lemma) after)) after
  pub kept : LiveKept ((before ++ lemma_lines c lemma) ++ deletion (unkept (before ++ lemma_lines c lemma) after)) after
  pub few : clause_count (lemma_lines c lemma) ≤ most_events s.problem.ships s.problem.slots + 2
  pub search : IsSearch after

abbrev pub LemmaTurn : Type 0
LemmaTurn = (s : SearchModel) (before : List Line) (why : Why) (lemma : List Lit) (back : ℕ) (places : List ℕ) → IsSearch s → s.over ≡ false → s.lemmas < MOST_BUDGET → FitsOpen before s → LiveKept before s → IsConflict s why → 1 ≤ length (reason_clause why) → Learns s.trail (reason_clause why) lemma back places → 1 ≤ length lemma
    → LemmaMeets s before why lemma back places (cite_conflict (cited s places) why) (gone_back (with_lemma (cite_conflict (cited s places) why).search lemma) back)

-- a lemma without literals ends the certificate, and has such hints
pub record EndMeets (s : SearchModel) (before : List Line) (why : Why) (places : List ℕ) (c : Cited) : Type 0 where
  pub hints : hinted (before ++ c.lines) c.hints ≡ chain_of s.trail places (reason_clause why)
  pub well : WritesWell s.problem before (lemma_lines c [])
  pub closed : is_closed (before ++ lemma_lines c []) ≡ true
  pub few : clause_count (lemma_lines c []) ≤ most_events s.problem.ships s.problem.slots + 2

-- a lemma without literals ends the certificate, and its lines are written well
abbrev pub LastTurn : Type 0
LastTurn = (s : SearchModel) (before : List Line) (why : Why) (back : ℕ) (places : List ℕ) → IsSearch s → s.over ≡ false → s.lemmas < MOST_BUDGET → FitsOpen before s → LiveKept before s → IsConflict s why → 1 ≤ length (reason_clause why) → Learns s.trail (reason_clause why) [] back places
    → EndMeets s before why places (cite_conflict (cited s places) why)

-- ---- a turn that ended

-- no permitted timetable beats the best
abbrev pub NothingBetter : SearchModel → Type 0
NothingBetter s = OfBetter s (λ table. ⊥)

-- the best timetable is a best one, and where there is none, none is permitted
pub record EndedMeans (s : SearchModel) : Type 0 where
  pub nothing_better : NothingBetter s
  pub optimal : (table : List ℕ) (c : ℕ) → s.best ≡ Some table → cargo s.problem table ≡ Some c → IsBest s.problem table c
  pub infeasible : s.best ≡ None → NonePermitted s.problem

-- so it is where a turn ended, also where no line is told
abbrev pub EndMeans : Type 0
EndMeans = (s after : SearchModel) (old new : LogModel) → IsSearch s → DoesEnd s after old new → EndedMeans s

-- ---- what the type of a search keeps where a turn went back, or stopped

-- whatever a log tells: the numbers that naming leaves
pub record NumbersKept (s : SearchModel) (c : Cited) (most : ℕ) : Type 0 where
  pub same : c.search ≡ record s { written = c.search.written; clause_lines = c.search.clause_lines }
  pub long : length c.search.written ≡ length s.written
  pub stay : NumbersStay s.written c.search.written
  pub low : s.clause_lines ≤ c.search.clause_lines
  pub high : c.search.clause_lines ≤ s.clause_lines + most

-- a search that went back is one, also where it is over, and without the lemma
pub record BackKeeps (s gone : SearchModel) : Type 0 where
  pub kept : IsSearch gone
  pub over : IsSearch (record gone { over = true })
  pub lacks : IsSearch (record gone { stored = s.stored; over = true })

-- what a turn that stopped leaves is a search, wherever it stopped
pub record StopKeeps (s : SearchModel) : Type 0 where
  pub numbers : (why : Why) (places : List ℕ) → NumbersKept s (cite_conflict (cited s places) why) (length places + 1)
  pub before : (written : List (Option ℕ)) (lines lemmas : ℕ) → length written ≡ length s.written → NumbersStay s.written written → s.clause_lines ≤ lines → IsSearch (record s { written = written; clause_lines = lines; lemmas = lemmas; over = true })
  pub past : (why : Why) (lemma : List Lit) (back : ℕ) (places : List ℕ) → s.over ≡ false → IsConflict s why → Learns s.trail (reason_clause why) lemma back places → 1 ≤ length lemma → BackKeeps s (gone_back (with_lemma (cite_conflict (cited s places) why).search lemma) back)

abbrev pub StopKept : Type 0
StopKept = (s : SearchModel) → IsSearch s → StopKeeps s

-- ---- bounds

-- where each live number but one is kept, few are live
abbrev pub LiveBound : Type 0
LiveBound = (s : SearchModel) (before : List Line) (extra : ℕ) → length s.written ≤ most_events s.problem.ships s.problem.slots → FitsOpen before s → ((number : ℕ) → IsSome (live before number) → Contains (kept_numbers s) number ⊎ (number ≡ extra)) → FewLive s.problem before

-- after each line of a turn from a fitting log few clauses are live: of one that found a lemma, of one that ended, and of a conflict without literals
pub record LiveTurn (s : SearchModel) (before : List Line) : Type 0 where
  pub lemma : (why : Why) (lemma : List Lit) (back : ℕ) (places : List ℕ) → IsConflict s why → 1 ≤ length (reason_clause why) → Learns s.trail (reason_clause why) lemma back places → 1 ≤ length lemma → (after : SearchModel) → after ≡ gone_back (with_lemma (cite_conflict (cited s places) why).search lemma) back
      → FewLiveFrom s.problem before (lemma_lines (cite_conflict (cited s places) why) lemma ++ deletion (unkept (before ++ lemma_lines (cite_conflict (cited s places) why) lemma) after))
  pub last : (why : Why) (back : ℕ) (places : List ℕ) → Learns s.trail (reason_clause why) [] back places → FewLiveFrom s.problem before (lemma_lines (cite_conflict (cited s places) why) [])
  pub conflict : (why : Why) → FewLiveFrom s.problem before (why_lines s.problem why)
  pub table : (table : List ℕ) → FitsOpen (before ++ lines.Table table ∷ []) (record s { best = Some table }) → FewLiveFrom s.problem before (lines.Table table ∷ [])

abbrev pub TurnLive : Type 0
TurnLive = (s : SearchModel) (before : List Line) → IsSearch s → s.over ≡ false → s.lemmas < MOST_BUDGET → FitsOpen before s → LiveKept before s → LiveTurn s before

-- few are live throughout: of no lines, and of lines followed by those of a turn
abbrev pub LiveThroughout : Type 0
LiveThroughout = (f : Problem) → FewLiveThroughout f [] × ((before more : List Line) → FewLiveThroughout f before → FewLiveFrom f before more → FewLiveThroughout f (before ++ more))

-- the first lines of what is written well are written well: what a turn that was cut short leaves
pub record PartMeets (f : Problem) (before more part : List Line) : Type 0 where
  pub well : WritesWell f before part
  pub few_live : FewLiveFrom f before part
  pub few : clause_count part ≤ clause_count more

-- the first lines of what is written well are written well
abbrev pub PartWritten : Type 0
PartWritten = (f : Problem) (before more : List Line) (n : ℕ) → WritesWell f before more → FewLiveFrom f before more → PartMeets f before more (take n more)

-- a search has few written reasons, and a trail has at most 21,260 events
abbrev pub FewWritten : Type 0
FewWritten = (s : SearchModel) → IsSearch s → (length s.written ≤ most_events s.problem.ships s.problem.slots) × (most_events s.problem.ships s.problem.slots ≤ 21260)

-- there are at most as many new lemmas as rooms: in lines, and in a search
abbrev pub FewNew : Type 0
FewNew = (f : Problem) (all : List Line) → IsFlat f → All (LineFits f) all → IsNew f all → length (lemmas_of all) ≤ room_count f

-- a search stores no more lemmas than there are rooms
abbrev pub FewStored : Type 0
FewStored = (s : SearchModel) → IsSearch s → length s.stored ≤ room_count s.problem

-- a search with fewer than 100,000 lemmas has numbers left for a turn's lines
abbrev pub FewNumbers : Type 0
FewNumbers = (s : SearchModel) → IsSearch s → s.over ≡ false → s.lemmas < MOST_BUDGET → s.clause_lines + most_events s.problem.ships s.problem.slots + 2 < 2 ^ 32

-- and its restarts have numbers
abbrev pub FewRestarts : Type 0
FewRestarts = (s : SearchModel) → IsSearch s → s.over ≡ false → s.lemmas < MOST_BUDGET → s.restarts + 1 ≤ MOST_BUDGET

-- ---- branching and restarts

-- the literal of the branching rule is there, in range and open
abbrev pub BranchOpen : Type 0
BranchOpen = (branching : Branching) (f : Problem) (room : RoomModel) → RoomFits f room → (IsPoint room → ⊥) → IsSomeAnd (branch_literal branching f room) (λ lit. (lit_fits (shape_of f) lit ≡ true) × (truth room lit ≡ Free))

-- the first restart numbers
abbrev pub FirstLubys : Type 0
FirstLubys = map luby (range_with_len 1 15) ≡ 1 ∷ 1 ∷ 2 ∷ 1 ∷ 1 ∷ 2 ∷ 4 ∷ 1 ∷ 1 ∷ 2 ∷ 1 ∷ 1 ∷ 2 ∷ 4 ∷ 8 ∷ []

-- the place 2^k - 1 gives 2^(k-1), and a place from 2^(k-1) on and below 2^k - 1 gives what the place 2^(k-1) - 1 before it gives
abbrev pub LubyRule : Type 0
LubyRule = (i k : ℕ) → 1 ≤ k → (i + 1 ≡ 2 ^ k → luby i ≡ 2 ^ (k - 1)) × (2 ^ (k - 1) ≤ i → i + 1 < 2 ^ k → luby i ≡ luby (i + 1 - 2 ^ (k - 1)))

-- ---- what a solution means

-- Optimal's timetable is a best one, Infeasible says that none is permitted, and Unfinished comes with no more lemmas than rooms
abbrev pub SolvedSound : Type 0
SolvedSound = (f : Problem) (budget : ℕ) (answer : Solved) (before now : ℕ) (all : List Line) → IsFlat f → SolveWrites f budget answer before now all → AnswerMeans f budget answer
