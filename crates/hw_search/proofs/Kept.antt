-- What an engine keeps, through an implied literal.
use Rattle.std.proofs.Common.{◌≡◌, ℕ, zero, suc, get_or, slice_get, replicate, ◌+◌, ◌<◌, ◌≤◌, Bool, true, List, [], ◌∷◌, ◌++◌, Option, Some, None, length, refl, sym, ap, ◌∙◌, subst, arith, length-append}
use Rattle.std.specs.Prelude.{All}
use Rattle.std.proofs.lemmas.List.{length-replicate}
use Rattle.hw_model.specs.declared.lit.Lit.{Lit}
use Rattle.hw_model.specs.declared.lit.LitTruth.TheVariants.{Free}
use Rattle.hw_model.specs.declared.narrowing.Narrowed.TheVariants.{Cut}
use Rattle.hw_model.specs.declared.source.Source.{Source}
use Rattle.hw_model.specs.declared.source.Source.TheVariants.{Goal}
use Rattle.hw_model.specs.Limits.{IsFlat}
use Rattle.hw_model.specs.Lits.{lit_fits, IsClause, IsLitOf}
use Rattle.hw_model.specs.Problem.{Problem, shape_of}
use Rattle.hw_model.specs.Refuting.{IsSourceOf}
use Rattle.hw_model.specs.Narrowing.{truth}
use Rattle.hw_model.specs.Replay.{narrowing}
use Rattle.hw_model.specs.Rooms.{RoomModel, RoomFits}
use Rattle.hw_model_laws.proofs.Denials.{lit_of}
use Rattle.hw_store.specs.declared.store.Stored.{Stored}
use Rattle.hw_trail_laws.specs.declared.event.Event.{Event}
use Rattle.hw_trail_laws.specs.declared.event.Why.{Why}
use Rattle.hw_trail_laws.specs.declared.event.Why.TheVariants as whys
use Rattle.hw_trail_laws.specs.Trails.{TrailModel, trail_shape, reason_clause, no_events, implied, most_events}
use Rattle.hw_trail_laws.proofs.Kept.{more_room}
use Rattle.hw_trail_laws.proofs.Many.{few_events}
use Rattle.hw_search_laws.specs.Prices.{PriceModel, unpriced_model}
use Rattle.hw_search_laws.specs.Searches.{SearchModel, new_search, IsSearch, IsReason, HasLine, room_in, best_cargo}
use Rattle.hw_search_laws.specs.declared.outcome.Branching.{Branching}
use Rattle.hw_search_laws.specs.Starting.{EachSourceOnce}
use Rattle.hw_search_laws.specs.Settling.{with_events}
use Rattle.hw_search_laws.specs.Advised.{with_priced}
use Rattle.hw_search_laws.proofs.Holds.{room_fits}
use Rattle.hw_search_laws.proofs.Keeps.{new_kept, implied_search}
use Rattle.hw_search.specs.Engines.{EngineModel, KeepsEngine, QuietUnmarked}
use Rattle.hw_search_ledger.specs.Ledgers.{LedgerModel}
use Rattle.hw_search_sources.specs.Marks.{is_place_marked, MarksPlaces}
use Rattle.hw_search_sources.specs.Speaking.{SpeakersModel, speakers_of, TellsSpeakers}
use Rattle.hw_search.proofs.Levels.{levels_implied}
use Rattle.hw_search.proofs.Markings.{quiet_cut, quiet_all}

-- in the words of a call: what is asked of the view is so of the parts
pub of_view : {A : Type 0} (e u : A) (P : A → Type 0) → e ≡ u → P u → P e
of_view e u P same h = subst P (sym same) h

-- the literal's ships are those of the problem
pub lit_here : (s : SearchModel) (lit : Lit) → IsSearch s → lit_fits (trail_shape s.trail) lit ≡ true → IsLitOf s.problem.ships lit
lit_here s lit is fits = subst (λ n. IsLitOf n lit) is.same_ships (lit_of (trail_shape s.trail) lit fits)

-- the room is one of the problem
pub room_here : (s : SearchModel) → IsSearch s → RoomFits s.problem (room_in s)
room_here s is = room_fits s is.trail is.same_ships is.same_slots

-- a trail has few events
pub few_in : (s : SearchModel) → IsSearch s → length s.trail.events ≤ most_events s.problem.ships s.problem.slots
few_in s is = subst (λ n. length s.trail.events ≤ most_events n s.problem.slots) is.same_ships (subst (λ n. length s.trail.events ≤ most_events s.trail.ships n) is.same_slots (few_events s.trail is.trail))

-- there is room for the number of one more event
pub one_more : (e : EngineModel) (table : SpeakersModel) (goal : ℕ) (worth : Option ℕ) (capacity : ℕ) (lit : Lit) (why : Why) → KeepsEngine e table goal worth capacity → lit_fits (trail_shape e.search.trail) lit ≡ true → IsClause (trail_shape e.search.trail) (reason_clause why) → truth (room_in e.search) lit ≡ Free → narrowing (reason_clause why) (room_in e.search) ≡ Cut lit → IsReason e.search why → HasLine None why
    → length e.search.written < capacity
one_more e table goal worth capacity lit why k fits clause free only reason line =
    let event : Event = record { lit = lit; level = e.search.trail.level; why = Some why } in
    let more = few_in (with_events e.search (event ∷ [])) (implied_search e.search lit why k.search fits clause free only reason line) in
    omega (arith, more, length-append e.search.trail.events (event ∷ []), k.search.each_event, k.room)

-- one more event, with the numbers of its line
kept_event : (e : EngineModel) (table : SpeakersModel) (goal : ℕ) (worth : Option ℕ) (capacity : ℕ) (lit : Lit) (why : Why) (ws : List (Option ℕ)) (lines priced : ℕ) (marks : List Bool) → KeepsEngine e table goal worth capacity → lit_fits (trail_shape e.search.trail) lit ≡ true → truth (room_in e.search) lit ≡ Free
    → IsSearch (record e.search { trail = implied e.search.trail lit why; written = ws; clause_lines = lines; priced = priced }) → MarksPlaces (speakers_of table lit) e.marks marks
    → KeepsEngine (record { search = record e.search { trail = implied e.search.trail lit why; written = ws; clause_lines = lines; priced = priced }; sources = e.sources; marks = marks }) table goal worth capacity
kept_event e table goal worth capacity lit why ws lines priced marks k fits free is m =
    let event : Event = record { lit = lit; level = e.search.trail.level; why = Some why } in
    let s = e.search in
    let room : RoomModel = room_in s in
    record {
      search = is;
      once = k.once;
      of_problem = k.of_problem;
      each_mark = m.same_length ∙ k.each_mark;
      quiet = subst (λ r. QuietUnmarked s.problem (best_cargo s) r e.sources marks) (sym (more_room s.trail event)) (quiet_cut s.problem (best_cargo s) room e.sources table e.marks marks lit k.search.flat k.of_problem (room_here s k.search) (lit_here s lit k.search fits) free k.speakers m k.quiet);
      quiet_below = levels_implied s.problem (best_cargo s) s.trail lit why k.quiet_below;
      speakers = k.speakers;
      goal_at = k.goal_at;
      worth_is = k.worth_is;
      room = k.room;
    }

-- what the parts of an engine hold after an event
kept_parts : (e : EngineModel) (table : SpeakersModel) (goal : ℕ) (worth : Option ℕ) (capacity : ℕ) (lit : Lit) (why : Why) (ws : List (Option ℕ)) (lines priced : ℕ) (trail : TrailModel) (stored : List Stored) (l : LedgerModel) (marks : List Bool) → trail ≡ implied e.search.trail lit why → stored ≡ e.search.stored → l ≡ record { written = ws; clause_lines = lines; reserved = capacity }
    → KeepsEngine (record { search = record e.search { trail = implied e.search.trail lit why; written = ws; clause_lines = lines; priced = priced }; sources = e.sources; marks = marks }) table goal worth capacity
    → KeepsEngine (record { search = record e.search { trail = trail; stored = stored; written = l.written; clause_lines = l.clause_lines; priced = priced }; sources = e.sources; marks = marks }) table goal worth l.reserved
kept_parts e table goal worth capacity lit why ws lines priced trail stored l marks t st w kept =
    let s = e.search in
    subst (λ x. KeepsEngine (record { search = record s { trail = x; stored = stored; written = l.written; clause_lines = l.clause_lines; priced = priced }; sources = e.sources; marks = marks }) table goal worth l.reserved) (sym t)
    (subst (λ x. KeepsEngine (record { search = record s { trail = implied s.trail lit why; stored = x; written = l.written; clause_lines = l.clause_lines; priced = priced }; sources = e.sources; marks = marks }) table goal worth l.reserved) (sym st)
    (subst (λ (x : LedgerModel). KeepsEngine (record { search = record s { trail = implied s.trail lit why; stored = s.stored; written = x.written; clause_lines = x.clause_lines; priced = priced }; sources = e.sources; marks = marks }) table goal worth x.reserved) (sym w) kept))

-- one more event that needs no line of its own
pub kept_implied : (e : EngineModel) (table : SpeakersModel) (goal : ℕ) (worth : Option ℕ) (capacity : ℕ) (lit : Lit) (why : Why) (trail : TrailModel) (stored : List Stored) (l : LedgerModel) (marks : List Bool) → KeepsEngine e table goal worth capacity → lit_fits (trail_shape e.search.trail) lit ≡ true → IsClause (trail_shape e.search.trail) (reason_clause why) → truth (room_in e.search) lit ≡ Free → narrowing (reason_clause why) (room_in e.search) ≡ Cut lit → IsReason e.search why → HasLine None why
    → trail ≡ implied e.search.trail lit why → stored ≡ e.search.stored → l ≡ record { written = e.search.written ++ None ∷ []; clause_lines = e.search.clause_lines; reserved = capacity } → MarksPlaces (speakers_of table lit) e.marks marks → KeepsEngine (record { search = record e.search { trail = trail; stored = stored; written = l.written; clause_lines = l.clause_lines }; sources = e.sources; marks = marks }) table goal worth l.reserved
kept_implied e table goal worth capacity lit why trail stored l marks k fits clause free only reason line t st w m =
    let s = e.search in
    kept_parts e table goal worth capacity lit why (s.written ++ None ∷ []) s.clause_lines s.priced trail stored l marks t st w
    (kept_event e table goal worth capacity lit why (s.written ++ None ∷ []) s.clause_lines s.priced marks k fits free (implied_search s lit why k.search fits clause free only reason line) m)

-- one more event with its line
pub kept_priced : (e : EngineModel) (table : SpeakersModel) (goal : ℕ) (worth : Option ℕ) (capacity : ℕ) (lit : Lit) (clause : List Lit) (trail : TrailModel) (stored : List Stored) (l : LedgerModel) (marks : List Bool) → KeepsEngine e table goal worth capacity → lit_fits (trail_shape e.search.trail) lit ≡ true → truth (room_in e.search) lit ≡ Free → IsSearch (with_priced e.search lit clause)
    → trail ≡ implied e.search.trail lit (whys.Priced clause) → stored ≡ e.search.stored → l ≡ record { written = e.search.written ++ Some (e.search.clause_lines + 1) ∷ []; clause_lines = e.search.clause_lines + 1; reserved = capacity } → MarksPlaces (speakers_of table lit) e.marks marks
    → KeepsEngine (record { search = record e.search { trail = trail; stored = stored; written = l.written; clause_lines = l.clause_lines; priced = e.search.priced + 1 }; sources = e.sources; marks = marks }) table goal worth l.reserved
kept_priced e table goal worth capacity lit clause trail stored l marks k fits free is t st w m =
    let s = e.search in
    let ws = s.written ++ Some (s.clause_lines + 1) ∷ [] in
    kept_parts e table goal worth capacity lit (whys.Priced clause) ws (s.clause_lines + 1) (s.priced + 1) trail stored l marks t st w
    (kept_event e table goal worth capacity lit (whys.Priced clause) ws (s.clause_lines + 1) (s.priced + 1) marks k fits free is m)

-- there is room for its number
pub one_priced : (e : EngineModel) (table : SpeakersModel) (goal : ℕ) (worth : Option ℕ) (capacity : ℕ) (lit : Lit) (clause : List Lit) → KeepsEngine e table goal worth capacity → IsSearch (with_priced e.search lit clause) → length e.search.written < capacity
one_priced e table goal worth capacity lit clause k is =
    let event : Event = record { lit = lit; level = e.search.trail.level; why = Some (whys.Priced clause) } in
    omega (arith, few_in (with_priced e.search lit clause) is, length-append e.search.trail.events (event ∷ []), k.search.each_event, k.room)

-- ---- a new search

pub all_marked : (marks : List Bool) (n : ℕ) → marks ≡ replicate n true → (place : ℕ) → is_place_marked marks place ≡ true
all_marked marks n e place = subst (λ xs. is_place_marked xs place ≡ true) (sym e) (each n place)
  where
    each : (n place : ℕ) → get_or (replicate n true) place true ≡ true
    each zero place = refl
    each (suc n) zero = refl
    each (suc n) (suc place) = each n place

pub kept_new : (f : Problem) (branching : Branching) (sources : List Source) (table : SpeakersModel) (goal : ℕ) (trail : TrailModel) (stored : List Stored) (l : LedgerModel) (prices : PriceModel) (marks : List Bool) → IsFlat f → EachSourceOnce f sources → All (IsSourceOf f) sources → TellsSpeakers f sources table → slice_get sources goal ≡ Some Goal → most_events f.ships f.slots ≤ l.reserved → trail ≡ no_events (shape_of f) → stored ≡ [] → l.written ≡ [] → l.clause_lines ≡ 0 → prices ≡ unpriced_model → marks ≡ replicate (length sources) true
    → KeepsEngine (record { search = record (new_search f branching) { trail = trail; stored = stored; written = l.written; prices = prices; clause_lines = l.clause_lines }; sources = sources; marks = marks }) table goal None l.reserved
kept_new f branching sources table goal trail stored l prices marks flat once of tells at room t st w n p m =
    let s = new_search f branching in
    let kept : KeepsEngine (record { search = s; sources = sources; marks = marks }) table goal None l.reserved = record {
      search = new_kept f branching flat;
      once = once;
      of_problem = of;
      each_mark = ap length m ∙ length-replicate (length sources) true;
      quiet = quiet_all f None (room_in s) sources marks (all_marked marks (length sources) m);
      quiet_below = λ level lt. absurd (omega (arith, lt));
      speakers = tells;
      goal_at = at;
      worth_is = refl;
      room = room;
    } in
    subst (λ x. KeepsEngine (record { search = record s { trail = x; stored = stored; written = l.written; prices = prices; clause_lines = l.clause_lines }; sources = sources; marks = marks }) table goal None l.reserved) (sym t)
    (subst (λ x. KeepsEngine (record { search = record s { stored = x; written = l.written; prices = prices; clause_lines = l.clause_lines }; sources = sources; marks = marks }) table goal None l.reserved) (sym st)
    (subst (λ x. KeepsEngine (record { search = record s { written = x; prices = prices; clause_lines = l.clause_lines }; sources = sources; marks = marks }) table goal None l.reserved) (sym w)
    (subst (λ x. KeepsEngine (record { search = record s { prices = x; clause_lines = l.clause_lines }; sources = sources; marks = marks }) table goal None l.reserved) (sym p)
    (subst (λ x. KeepsEngine (record { search = record s { clause_lines = x }; sources = sources; marks = marks }) table goal None l.reserved) (sym n) kept))))
