-- What an engine keeps through the parts of a turn.
use Rattle.std.proofs.Common.{◌≡◌, ℕ, zero, suc, ◌+◌, ◌<◌, ◌&&◌, nat_lt, nat_le, Bool, true, false, List, [], ◌∷◌, ◌++◌, Option, Some, None, IsSomeAnd, IsTrue, length, slice_get, refl, sym, ap, ◌∙◌, subst, arith, length-append, length-set}
use Rattle.std.specs.Prelude.{slice_set}
use Rattle.hw_model.specs.declared.lit.Lit.{Lit}
use Rattle.hw_model.specs.declared.lit.Lit.TheVariants as lits
use Rattle.hw_model.specs.declared.lit.LitTruth.TheVariants.{Free}
use Rattle.hw_model.specs.declared.shape.Shape.{Shape}
use Rattle.hw_model.specs.declared.source.Source.TheVariants as sources
use Rattle.hw_model.specs.Lits.{lit_fits, IsLitOf}
use Rattle.hw_model.specs.Narrowing.{truth}
use Rattle.hw_model.specs.Problem.{shape_of}
use Rattle.hw_model.specs.Rooms.{RoomModel, IsPoint}
use Rattle.hw_model.specs.Timetables.{Permits, cargo, beats}
use Rattle.hw_store.specs.declared.store.Stored.{Stored}
use Rattle.hw_trail_laws.specs.declared.event.Event.{Event}
use Rattle.hw_trail_laws.specs.Trails.{TrailModel, trail_shape, decided}
use Rattle.hw_trail_laws.proofs.Kept.{more_room}
use Rattle.hw_search_advice.specs.Advisers as advice
use Rattle.hw_search_laws.specs.Branches.{branch_literal}
use Rattle.hw_search_laws.specs.Searches.{SearchModel, IsSearch, room_in, best_cargo}
use Rattle.hw_search_laws.specs.Settling.{AllQuiet}
use Rattle.hw_search_laws.specs.Starting.{Branches}
use Rattle.hw_search_laws.proofs.Choices.{branch_open}
use Rattle.hw_search_laws.proofs.Keeps.{decided_search, better_search}
use Rattle.hw_model_laws.proofs.Quiets.{best_quiet}
use Rattle.hw_search.proofs.Levels.{levels_decided, levels_best, at_get, one_place}
use Rattle.hw_search.specs.Engines.{EngineModel, KeepsEngine, QuietUnmarked}
use Rattle.hw_search_ledger.specs.Ledgers.{LedgerModel}
use Rattle.hw_search_sources.specs.Marks.{is_place_marked, MarksPlaces}
use Rattle.hw_search_sources.specs.Speaking.{SpeakersModel, speakers_of}
use Rattle.hw_search.proofs.Kept.{lit_here, room_here, few_in}
use Rattle.hw_search.proofs.Markings.{quiet_cut}

-- ---- a decision

-- an open literal of the trail's shape
pub record IsOpenIn (s : SearchModel) (lit : Lit) : Type 0 where
  pub fits : lit_fits (trail_shape s.trail) lit ≡ true
  pub free : truth (room_in s) lit ≡ Free
  pub here : IsLitOf s.problem.ships lit

pub same_fits : (a b : Shape) (lit : Lit) → a.ships ≡ b.ships → a.slots ≡ b.slots → lit_fits a lit ≡ lit_fits b lit
same_fits a b (lits.AtOrAfter ship slot) e f = ap (λ n. nat_lt ship n && (nat_le 1 slot && nat_lt slot a.slots)) e ∙ ap (λ n. nat_lt ship b.ships && (nat_le 1 slot && nat_lt slot n)) f
same_fits a b (lits.Before ship slot) e f = ap (λ n. nat_lt ship n && (nat_le 1 slot && nat_lt slot a.slots)) e ∙ ap (λ n. nat_lt ship b.ships && (nat_le 1 slot && nat_lt slot n)) f
same_fits a b (lits.First v w) e f = ap (λ n. nat_lt v w && nat_lt w n) e
same_fits a b (lits.NotFirst v w) e f = ap (λ n. nat_lt v w && nat_lt w n) e

of_some_and : {A : Type 0} (o : Option A) (P : A → Type 0) (x : A) → o ≡ Some x → IsSomeAnd o P → P x
of_some_and None P x e h = absurd h
of_some_and (Some y) P x e h = subst P (let same : y ≡ x = cc in same) h

-- the literal of the branching rule is open
pub branch_here : (s : SearchModel) (lit : Lit) → IsSearch s → (IsPoint (room_in s) → ⊥) → Branches s lit → advice.IsOpenIn s.problem (room_in s) lit
branch_here s lit is wide b =
    let h = of_some_and (branch_literal s.branching s.problem (room_in s)) (λ lit. (lit_fits (shape_of s.problem) lit ≡ true) × (truth (room_in s) lit ≡ Free)) lit b (branch_open s.branching s.problem (room_in s) (room_here s is) wide) in
    record { fits = h.0; free = h.1 }

pub open_in : (e u : EngineModel) (lit : Lit) → e ≡ u → IsSearch e.search → advice.IsOpenIn u.search.problem (room_in u.search) lit → IsOpenIn e.search lit
open_in e u lit same is o =
    let s = e.search in
    let here = subst (λ (x : EngineModel). advice.IsOpenIn x.search.problem (room_in x.search) lit) (sym same) o in
    let fits : lit_fits (trail_shape s.trail) lit ≡ true = same_fits (trail_shape s.trail) (shape_of s.problem) lit is.same_ships is.same_slots ∙ here.fits in
    record { fits = fits; free = here.free; here = lit_here s lit is fits }

abbrev decides : SearchModel → Lit → SearchModel
decides s lit = record s { trail = decided s.trail lit; written = s.written ++ None ∷ [] }

-- there is room for the number of a decision
pub room_to_decide : (e : EngineModel) (table : SpeakersModel) (goal : ℕ) (worth : Option ℕ) (capacity : ℕ) (lit : Lit) → KeepsEngine e table goal worth capacity → AllQuiet e.search → IsOpenIn e.search lit → length e.search.written < capacity
room_to_decide e table goal worth capacity lit k quiet o =
    let event : Event = record { lit = lit; level = e.search.trail.level + 1; why = None } in
    let more = few_in (decides e.search lit) (decided_search e.search lit k.search quiet o.fits o.free) in
    omega (arith, more, length-append e.search.trail.events (event ∷ []), k.search.each_event, k.room)

pub kept_decided : (e : EngineModel) (table : SpeakersModel) (goal : ℕ) (worth : Option ℕ) (capacity : ℕ) (lit : Lit) (trail : TrailModel) (stored : List Stored) (l : LedgerModel) (marks : List Bool) → KeepsEngine e table goal worth capacity → AllQuiet e.search → IsOpenIn e.search lit
    → trail ≡ decided e.search.trail lit → stored ≡ e.search.stored → l ≡ record { written = e.search.written ++ None ∷ []; clause_lines = e.search.clause_lines; reserved = capacity } → MarksPlaces (speakers_of table lit) e.marks marks → KeepsEngine (record { search = record e.search { trail = trail; stored = stored; written = l.written; clause_lines = l.clause_lines }; sources = e.sources; marks = marks }) table goal worth l.reserved
kept_decided e table goal worth capacity lit trail stored l marks k quiet o t st w m =
    let s = e.search in
    let event : Event = record { lit = lit; level = s.trail.level + 1; why = None } in
    let after : SearchModel = decides s lit in
    let room : RoomModel = room_in s in
    let kept : KeepsEngine (record { search = after; sources = e.sources; marks = marks }) table goal worth capacity = record {
      search = decided_search s lit k.search quiet o.fits o.free;
      once = k.once;
      of_problem = k.of_problem;
      each_mark = m.same_length ∙ k.each_mark;
      quiet = subst (λ r. QuietUnmarked s.problem (best_cargo s) r e.sources marks) (sym (more_room s.trail event)) (quiet_cut s.problem (best_cargo s) room e.sources table e.marks marks lit k.search.flat k.of_problem (room_here s k.search) o.here o.free k.speakers m k.quiet);
      quiet_below = levels_decided s.problem (best_cargo s) s.trail lit k.search.trail quiet.sources k.quiet_below;
      speakers = k.speakers;
      goal_at = k.goal_at;
      worth_is = k.worth_is;
      room = k.room;
    } in
    subst (λ x. KeepsEngine (record { search = record s { trail = x; stored = stored; written = l.written; clause_lines = l.clause_lines }; sources = e.sources; marks = marks }) table goal worth l.reserved) (sym t)
    (subst (λ x. KeepsEngine (record { search = record s { trail = decided s.trail lit; stored = x; written = l.written; clause_lines = l.clause_lines }; sources = e.sources; marks = marks }) table goal worth l.reserved) (sym st)
    (subst (λ (x : LedgerModel). KeepsEngine (record { search = record s { trail = decided s.trail lit; stored = s.stored; written = x.written; clause_lines = x.clause_lines }; sources = e.sources; marks = marks }) table goal worth x.reserved) (sym w) kept))

-- ---- a better timetable

-- one more mark
marked_here : (marks : List Bool) (k : ℕ) → k < length marks → is_place_marked (slice_set marks k true) k ≡ true
marked_here [] k lt = absurd (omega (arith, lt))
marked_here (m ∷ marks) zero lt = refl
marked_here (m ∷ marks) (suc k) lt = marked_here marks k (omega (arith, lt))

marked_else : (marks : List Bool) (k j : ℕ) → (j ≡ k → ⊥) → is_place_marked (slice_set marks k true) j ≡ is_place_marked marks j
marked_else [] k j ne = refl
marked_else (m ∷ marks) zero zero ne = absurd (ne refl)
marked_else (m ∷ marks) zero (suc j) ne = refl
marked_else (m ∷ marks) (suc k) zero ne = refl
marked_else (m ∷ marks) (suc k) (suc j) ne = marked_else marks k j (λ e. ne (ap suc e))

not_marked : (marks : List Bool) (k j : ℕ) → k < length marks → is_place_marked (slice_set marks k true) j ≡ false → j ≡ k → ⊥
not_marked marks k j lt clear e = let two : true ≡ false = sym (marked_here marks k lt) ∙ ap (is_place_marked (slice_set marks k true)) (sym e) ∙ clear in cc

pub kept_better : (e : EngineModel) (table : SpeakersModel) (goal : ℕ) (worth : Option ℕ) (capacity : ℕ) (row : List ℕ) (worth' : Option ℕ) (marks : List Bool) → KeepsEngine e table goal worth capacity → Permits e.search.problem row → (c : ℕ) → cargo e.search.problem row ≡ Some c → IsTrue (beats c (best_cargo e.search)) → worth' ≡ cargo e.search.problem row → marks ≡ slice_set e.marks goal true
    → KeepsEngine (record { search = record e.search { best = Some row }; sources = e.sources; marks = marks }) table goal worth' capacity
kept_better e table goal worth capacity row worth' marks k permits c value above w m =
    let s = e.search in
    let inside : goal < length e.marks = omega (arith, (at_get e.sources goal sources.Goal k.goal_at).0, k.each_mark) in
    let kept : KeepsEngine (record { search = record s { best = Some row }; sources = e.sources; marks = slice_set e.marks goal true }) table goal worth' capacity = record {
      search = better_search s row c k.search permits value above;
      once = k.once;
      of_problem = k.of_problem;
      each_mark = length-set e.marks goal true ∙ k.each_mark;
      quiet = λ place source at clear.
          let ne = not_marked e.marks goal place inside clear in
          best_quiet s.problem source (best_cargo s) (cargo s.problem row) (room_in s) (λ g. ne (one_place e.sources place goal sources.Goal k.once.once (subst (λ x. slice_get e.sources place ≡ Some x) g at) k.goal_at)) (k.quiet place source at (sym (marked_else e.marks goal place ne) ∙ clear));
      quiet_below = levels_best s.problem (best_cargo s) (cargo s.problem row) s.trail k.quiet_below;
      speakers = k.speakers;
      goal_at = k.goal_at;
      worth_is = w;
      room = k.room;
    } in
    subst (λ x. KeepsEngine (record { search = record s { best = Some row }; sources = e.sources; marks = x }) table goal worth' capacity) (sym m) kept
