-- What contracts see of a search, what its type keeps, and when a log fits it.
use Rattle.std.specs.Prelude.{◌≡◌, ℕ, ◌+◌, ◌*◌, ◌<◌, ◌≤◌, Bool, false, List, [], ◌++◌, Option, Some, None, All, AllPairs, Contains, IfSome, IsSome, IsSomeAnd, IsTrue, ⊤, length, map, filter_map, slice_get, option_and_then}
use Rattle.std.specs.Option.{option_flatten}
use Rattle.std.specs.List.Sorted.{IsStrictlyIncreasing}
use Rattle.hw_model.specs.declared.lit.Lit.{Lit}
use Rattle.hw_model.specs.declared.source.Source.TheVariants as sources
use Rattle.hw_model.specs.Problem.{Problem, shape_of}
use Rattle.hw_model.specs.Limits.{IsFlat}
use Rattle.hw_model.specs.Timetables.{Permits, cargo, beats}
use Rattle.hw_model.specs.Lits.{clause_holds, IsClause}
use Rattle.hw_model.specs.Rooms.{RoomModel, RoomWithin}
use Rattle.hw_model.specs.Refuting.{Refutes, IsSourceOf}
use Rattle.hw_cert_lines.specs.declared.line.Line.{Line}
use Rattle.hw_cert_lines.specs.Lines.{clause_count, clause_at, live, DeletesEarlier, last_table, is_closed}
use Rattle.hw_cert_lines.specs.Valid.{denied_room}
use Rattle.hw_cert_lines.specs.Lemmas.{lemmas_of}
use Rattle.hw_model.specs.Quiet.{SpeaksOnlyOf}
use Rattle.hw_trail_laws.specs.declared.event.Event.{Event}
use Rattle.hw_trail_laws.specs.declared.event.Why.{Why}
use Rattle.hw_trail_laws.specs.declared.event.Why.TheVariants as whys
use Rattle.hw_trail_laws.specs.Trails.{TrailModel, room_of, IsTrail, no_events, most_events}
use Rattle.hw_trail_laws.specs.Learning.{reason_at, QuietBelow}
use Rattle.hw_search_laws.specs.declared.limits.TheConstants.{MOST_PRICED}
use Rattle.hw_search_laws.specs.declared.outcome.Branching.{Branching}
use Rattle.hw_store.specs.declared.store.Stored.{Stored}
use Rattle.hw_price_laws.specs.Prices.{PricesRefute}
use Rattle.hw_search_laws.specs.Luby.{luby}
use Rattle.hw_search_laws.specs.Prices.{PriceModel, unpriced_model, ArePrices, PricesTold}
use Rattle.hw_cert.specs.Logs.{LogTold}

-- `written` has for each event of the trail the number of the line that was written for its reason, if one was; `since` counts the lemmas since the last restart, `priced` the clauses by which prices implied a literal
pub record SearchModel : Type 0 where
  pub problem : Problem
  pub branching : Branching
  pub trail : TrailModel
  pub stored : List Stored
  pub written : List (Option ℕ)
  pub best : Option (List ℕ)
  pub prices : PriceModel
  pub clause_lines : ℕ
  pub lemmas : ℕ
  pub restarts : ℕ
  pub since : ℕ
  pub priced : ℕ
  pub over : Bool

-- a search that has done nothing
abbrev pub new_search : Problem → Branching → SearchModel
new_search f branching = record { problem = f; branching = branching; trail = no_events (shape_of f); stored = []; written = []; best = None; prices = unpriced_model; clause_lines = 0; lemmas = 0; restarts = 0; since = 0; priced = 0; over = false }

-- the search's room
abbrev pub room_in : SearchModel → RoomModel
room_in s = room_of s.trail

-- the clauses of the stored lemmas, in order
abbrev pub lemmas_in : SearchModel → List (List Lit)
lemmas_in s = map (λ one. one.clause) s.stored

-- the cargo of the best timetable, or none
abbrev pub best_cargo : SearchModel → Option ℕ
best_cargo s = option_and_then (cargo s.problem) s.best

-- the number of the line that was written for the reason of the event at a place
abbrev pub written_at : SearchModel → ℕ → Option ℕ
written_at s place = option_flatten (slice_get s.written place)

-- each event that had a number has one
abbrev pub NumbersStay : List (Option ℕ) → List (Option ℕ) → Type 0
NumbersStay old new = (place : ℕ) → IsSome (option_flatten (slice_get old place)) → IsSome (option_flatten (slice_get new place))

-- the numbers that the search keeps: those of its lemmas, and those written for reasons of events on its trail
abbrev pub kept_numbers : SearchModel → List ℕ
kept_numbers s = map (λ one. one.number) s.stored ++ filter_map (λ number. number) s.written

-- this holds of each permitted timetable whose cargo beats the best
abbrev pub OfBetter : SearchModel → (List ℕ → Type 0) → Type 0
OfBetter s P = (table : List ℕ) (c : ℕ) → Permits s.problem table → cargo s.problem table ≡ Some c → IsTrue (beats c (best_cargo s)) → P table

-- the clause may be a reason: it is the stored lemma of that number, or the named source refutes it under the best when it is denied and it speaks only of what the source speaks of, or prices that were in force showed that it is true of each permitted timetable that beats the best
abbrev pub IsReason : SearchModel → Why → Type 0
IsReason s (whys.Lemma number clause) = Contains s.stored (record { number = number; clause = clause })
IsReason s (whys.Source source clause) = IsSourceOf s.problem source × Refutes s.problem source (best_cargo s) (denied_room s.problem clause) × SpeaksOnlyOf s.problem source clause
IsReason s (whys.Priced clause) = OfBetter s (λ table. IsTrue (clause_holds table clause))

-- a clause that prices gave has a line of its own
abbrev pub HasLine : Option ℕ → Why → Type 0
HasLine number (whys.Lemma id clause) = ⊤
HasLine number (whys.Source source clause) = ⊤
HasLine number (whys.Priced clause) = IsSome number

-- the prices in force refute the clause's denied room under the best, and the clause speaks of ships alone
pub record PricesShow (s : SearchModel) (clause : List Lit) : Type 0 where
  pub refuted : IsSomeAnd s.prices.tariff (λ tariff. PricesRefute s.problem s.prices.tolls tariff (best_cargo s) (denied_room s.problem clause))
  pub speaks : SpeaksOnlyOf s.problem sources.Goal clause

-- why the event at a place came, none of a decision
abbrev pub why_at : TrailModel → ℕ → Option Why
why_at t place = option_and_then (λ (event : Event). event.why) (slice_get t.events place)

-- what the type of a search keeps. Each stored lemma is true of each permitted timetable that beats the best, whatever a log tells
pub record IsSearch (s : SearchModel) : Type 0 where
  pub flat : IsFlat s.problem
  pub trail : IsTrail s.trail
  pub same_ships : s.trail.ships ≡ s.problem.ships
  pub same_slots : s.trail.slots ≡ s.problem.slots
  pub ascending : IsStrictlyIncreasing (map (λ one. one.number) s.stored)
  pub numbered : All (λ one. one.number ≤ s.clause_lines) s.stored
  pub clauses : All (IsClause (shape_of s.problem)) (lemmas_in s)
  pub some_literal : All (λ clause. 1 ≤ length clause) (lemmas_in s)
  pub reasons : (place : ℕ) → IfSome (why_at s.trail place) (IsReason s)
  pub priced_lines : (place : ℕ) → IfSome (why_at s.trail place) (HasLine (written_at s place))
  pub each_event : length s.written ≡ length s.trail.events
  pub quiet_below : QuietBelow s.trail (lemmas_in s)
  pub new : AllPairs (λ earlier later. RoomWithin (denied_room s.problem later) (denied_room s.problem earlier) → ⊥) (lemmas_in s)
  pub permitted : IfSome s.best (Permits s.problem)
  pub prices : ArePrices s.problem s.prices
  pub counted : s.over ≡ false → s.lemmas ≡ length s.stored
  pub few_lines : s.over ≡ false → s.clause_lines ≤ (most_events s.problem.ships s.problem.slots + 2) * s.lemmas + s.priced
  pub few_priced : s.priced ≤ MOST_PRICED
  pub restarts_due : s.since < 32 * luby (s.restarts + 1)
  pub few_restarts : s.over ≡ false → s.restarts + s.since ≤ s.lemmas
  pub sound : OfBetter s (λ table. All (λ clause. IsTrue (clause_holds table clause)) (lemmas_in s))

-- all of the fit but that no other line is live
pub record FitsOpen (lines : List Line) (s : SearchModel) : Type 0 where
  pub lemmas : lemmas_of lines ≡ lemmas_in s
  pub count : clause_count lines ≡ s.clause_lines
  pub best : last_table lines ≡ s.best
  pub none_empty : is_closed lines ≡ false
  pub lemma_stands : All (λ one. clause_at lines one.number ≡ Some one.clause) s.stored
  pub reason_stands : (place : ℕ) → IfSome (written_at s place) (λ number. clause_at lines number ≡ reason_at s.trail place)
  pub kept_live : (number : ℕ) → Contains (kept_numbers s) number → IsSome (live lines number)
  pub deletes_earlier : DeletesEarlier lines
  pub prices : PricesTold lines s.prices

-- no other line is live
abbrev pub LiveKept : List Line → SearchModel → Type 0
LiveKept lines s = (number : ℕ) → IsSome (live lines number) → Contains (kept_numbers s) number

-- the log fits the search
pub record LogFits (told : LogTold) (s : SearchModel) : Type 0 where
  pub no_remainder : told.remainder ≡ []
  pub fits : FitsOpen told.lines s
  pub live_kept : LiveKept told.lines s
