-- What writing a lemma and going back leave, in the words of a call. `e` is what the fields say, `u` what the call sees.
use Rattle.std.proofs.Common.{◌≡◌, ℕ, ◌+◌, ◌^◌, ◌<◌, ◌≤◌, true, List, [], Option, Some, None, length, take, All, sym, ap, ◌∙◌, refl, subst, arith}
use Rattle.std.specs.Prelude.{Result, Ok, Err, IfSome}
use Rattle.hw_model.specs.declared.lit.Lit.{Lit}
use Rattle.hw_model.specs.Lits.{IsLitOf}
use Rattle.hw_trail_laws.specs.declared.event.Why.{Why}
use Rattle.hw_trail_laws.specs.declared.event.Why.TheVariants as whys
use Rattle.hw_trail_laws.specs.Trails.{TrailModel, back_to}
use Rattle.hw_cert.specs.declared.log.LogStop.{LogStop}
use Rattle.hw_cert.specs.Logs.{LogModel, IsWhole}
use Rattle.hw_learn.specs.declared.learning.Learnt.{Learnt}
use Rattle.hw_store.specs.declared.store.Stored.{Stored}
use Rattle.hw_search_laws.specs.declared.outcome.Settled.TheVariants.{Conflict}
use Rattle.hw_search_laws.specs.declared.outcome.Turn.{Turn}
use Rattle.hw_search_laws.specs.declared.outcome.Turn.TheVariants as turns
use Rattle.hw_search_laws.specs.Laws.{lemma_lines}
use Rattle.hw_search_laws.specs.Searches.{SearchModel, IsSearch, IsReason, why_at}
use Rattle.hw_search_laws.specs.Settling.{Settles}
use Rattle.hw_search_laws.specs.Turns.{TurnMeets}
use Rattle.hw_search.specs.Engines.{EngineModel}
use Rattle.hw_search_ledger.specs.GoingBack.{Tidies, TidiesBy}
use Rattle.hw_search_sources.specs.Restarts.{NextLevel}
use Rattle.hw_search_ledger.specs.Handing.{TakesAll}
use Rattle.hw_search_ledger.specs.Ledgers.{LedgerModel, with_events_left}
use Rattle.hw_search_ledger.specs.Naming.{EachOfProblem, HandsLearnt, IsOfProblem, WritesLearnt, own_after, taught, Taught}
use Rattle.hw_search.specs.Turning.{Teaches, TurnsFrom, turn_of, halted}
use Rattle.hw_search_ledger.specs.declared.writing.WrittenLemma.{WrittenLemma}
use Rattle.hw_search.proofs.Answering.{same_mid}
use Rattle.hw_search.proofs.Ending.{turned}
use Rattle.hw_search_ledger.proofs.Handed.{all_whole}
use Rattle.hw_search.proofs.Lessons.{places_inside, numbers_left, level_below, lits_here, numbers_below, no_lits}
use Rattle.hw_search.proofs.Taught.{WentBack, analysed, went, went_search, stopped_past, went_meets, stop_meets_past}
use Rattle.hw_search.proofs.Teaching.{ended, lemma_stops, last_meets}

-- ---- before the lemma

abbrev pub TeachesOf : SearchModel → Why → Learnt → Type 0
TeachesOf s why learnt = Teaches s why learnt.lemma learnt.back learnt.places.items

pub teaches_here : (e u : EngineModel) (why : Why) (learnt : Learnt) → e ≡ u → TeachesOf u.search why learnt → TeachesOf e.search why learnt
teaches_here e u why learnt same t = subst (λ (x : EngineModel). TeachesOf x.search why learnt) (sym same) t

pub places_here : (e u : EngineModel) (why : Why) (learnt : Learnt) → e ≡ u → TeachesOf u.search why learnt → All (λ place. place < length e.search.trail.events) learnt.places.items
places_here e u why learnt same t = places_inside e.search why learnt.lemma learnt.back learnt.places.items (teaches_here e u why learnt same t)

pub few_here : (e u : EngineModel) (why : Why) (learnt : Learnt) → e ≡ u → TeachesOf u.search why learnt → u.search.lemmas < 100000 → e.search.clause_lines + length learnt.places.items + 2 < 2 ^ 32
few_here e u why learnt same t few = numbers_left e u why learnt.lemma learnt.back learnt.places.items same few (teaches_here e u why learnt same t)

reason_of : (s : SearchModel) (why : Why) → IsReason s why → IsOfProblem s.problem why
reason_of s (whys.Lemma number clause) r = tt
reason_of s (whys.Source source clause) r = r.0
reason_of s (whys.Priced clause) r = tt

each_reason : (s : SearchModel) (o : Option Why) → IfSome o (IsReason s) → IfSome o (IsOfProblem s.problem)
each_reason s None r = tt
each_reason s (Some why) r = reason_of s why r

pub sources_here : (s : SearchModel) → IsSearch s → EachOfProblem s.problem s.trail
sources_here s is place = each_reason s (why_at s.trail place) (is.reasons place)

pub source_here : (e u : EngineModel) (why : Why) (learnt : Learnt) → e ≡ u → TeachesOf u.search why learnt → IsOfProblem e.search.problem why
source_here e u why learnt same t = reason_of e.search why (teaches_here e u why learnt same t).conflict.holds

-- ---- where the lemma wasn't written

-- the numbers of a search
abbrev pub numbers_of : SearchModel → ℕ → LedgerModel
numbers_of s reserved = record { written = s.written; clause_lines = s.clause_lines; reserved = reserved }

settled_here : (e u : EngineModel) (mid : SearchModel) (why : Why) → e ≡ u → Settles mid u.search (Conflict why) → Settles mid e.search (Conflict why)
settled_here e u mid why same settles = subst (λ (x : EngineModel). Settles mid x.search (Conflict why)) (sym same) settles

pub lemma_stopped_here : (e u : EngineModel) (why : Why) (learnt : Learnt) (reserved : ℕ) (l : LedgerModel) (stop : LogStop) (turn : Turn) (old new : LogModel) → e ≡ u → TeachesOf u.search why learnt → HandsLearnt {A = WrittenLemma} e.search.problem e.search.trail (numbers_of e.search reserved) why learnt old new (Err stop) → turn ≡ turn_of stop
    → TurnsFrom (Conflict why) u.search old turn (halted e.search l.written l.clause_lines) new
lemma_stopped_here e u why learnt reserved l stop turn old new same t h is s b settles =
    let mid = e.search in
    let t' = teaches_here e u why learnt same t in
    let settles' : Settles s mid (Conflict why) = settled_here e u s why same settles in
    let after = halted mid l.written l.clause_lines in
    turned s old new (turn_of stop) turn after after is refl
    (lemma_stops s mid why learnt.lemma learnt.back learnt.places.items l.written l.clause_lines stop old new b (analysed s mid why learnt.lemma learnt.back learnt.places.items settles' t') t'.some (h mid))

-- ---- where it was

-- the lemma was written, and its numbers are those of the ledger
pub record Wrote (s : SearchModel) (why : Why) (learnt : Learnt) (l : LedgerModel) (written : WrittenLemma) (old wrote : LogModel) : Type 0 where
  pub teaches : TeachesOf s why learnt
  pub lines : TakesAll (lemma_lines (taught s why learnt.places.items) learnt.lemma) old wrote
  pub numbers : Taught (taught s why learnt.places.items) l.written l.clause_lines
  pub own : written.conflict ≡ own_after s why learnt.places.items
  pub same_lemma : written.lemma ≡ learnt.lemma

pub wrote : (e u : EngineModel) (why : Why) (learnt : Learnt) (reserved : ℕ) (l : LedgerModel) (written : WrittenLemma) (old new : LogModel) → e ≡ u → TeachesOf u.search why learnt → HandsLearnt e.search.problem e.search.trail (numbers_of e.search reserved) why learnt old new (Ok written) → WritesLearnt e.search.problem e.search.trail (numbers_of e.search reserved) why learnt l written
    → Wrote e.search why learnt l written old new
wrote e u why learnt reserved l written old new same t h w = record {
  teaches = teaches_here e u why learnt same t;
  lines = h e.search;
  numbers = w.numbers e.search;
  own = w.own_is e.search;
  same_lemma = w.same_lemma;
}

-- one without literals
pub ended_here : (e u : EngineModel) (why : Why) (learnt : Learnt) (l : LedgerModel) (written : WrittenLemma) (old new : LogModel) → e ≡ u → Wrote e.search why learnt l written old new → length written.lemma ≡ 0 → TurnsFrom (Conflict why) u.search old turns.Ended (ended e.search l.written l.clause_lines (e.search.lemmas + 1)) new
ended_here e u why learnt l written old new same w empty s b settles =
    let mid = e.search in
    let settles' : Settles s mid (Conflict why) = settled_here e u s why same settles in
    let none : learnt.lemma ≡ [] = no_lits learnt.lemma (omega (arith, empty, ap length w.same_lemma)) in
    let t : Teaches mid why [] learnt.back learnt.places.items = subst (λ (xs : List Lit). Teaches mid why xs learnt.back learnt.places.items) none w.teaches in
    last_meets s mid why learnt.back learnt.places.items l.written l.clause_lines old new b (analysed s mid why [] learnt.back learnt.places.items settles' t) t.some (subst (λ (xs : List Lit). TakesAll (lemma_lines (taught mid why learnt.places.items) xs) old new) none w.lines)

-- ---- going back

literal_here : (s : SearchModel) (why : Why) (learnt : Learnt) (l : LedgerModel) (written : WrittenLemma) (old new : LogModel) → Wrote s why learnt l written old new → 1 ≤ length written.lemma → 1 ≤ length learnt.lemma
literal_here s why learnt l written old new w some = omega (arith, some, ap length w.same_lemma)

pub level_here : (s : SearchModel) (why : Why) (learnt : Learnt) (l : LedgerModel) (written : WrittenLemma) (old new : LogModel) (restarts since level : ℕ) → Wrote s why learnt l written old new → 1 ≤ length written.lemma → NextLevel s.restarts s.since learnt.back restarts since level → level < s.trail.level
level_here s why learnt l written old new restarts since level w some next = level_below s why learnt.lemma learnt.back learnt.places.items restarts since level w.teaches (literal_here s why learnt l written old new w some) next

pub lits_back : (s : SearchModel) (why : Why) (learnt : Learnt) (l : LedgerModel) (written : WrittenLemma) (old new : LogModel) → Wrote s why learnt l written old new → All (IsLitOf s.trail.ships) written.lemma
lits_back s why learnt l written old new w = lits_here s why learnt.lemma written.lemma learnt.back learnt.places.items w.teaches w.same_lemma

pub above_here : (s : SearchModel) (why : Why) (learnt : Learnt) (l : LedgerModel) (written : WrittenLemma) (old new : LogModel) → Wrote s why learnt l written old new → All (λ (one : Stored). one.number < l.clause_lines) s.stored
above_here s why learnt l written old new w = numbers_below s why learnt.lemma learnt.back learnt.places.items l.written l.clause_lines w.teaches w.numbers

pub whole_here : (s : SearchModel) (why : Why) (learnt : Learnt) (l : LedgerModel) (written : WrittenLemma) (old new : LogModel) → Wrote s why learnt l written old new → IsWhole new
whole_here s why learnt l written old new w = all_whole (lemma_lines (taught s why learnt.places.items) learnt.lemma) old new w.lines

-- the search has gone back after a lemma that was written
pub record Gone (s : SearchModel) (learnt : Learnt) (written : WrittenLemma) (l l' : LedgerModel) (trail : TrailModel) (restarts since level : ℕ) : Type 0 where
  pub some : 1 ≤ length written.lemma
  pub next : NextLevel s.restarts s.since learnt.back restarts since level
  pub at : trail ≡ back_to s.trail level
  pub left : l' ≡ with_events_left l (length trail.events)

went_of : (s : SearchModel) (why : Why) (learnt : Learnt) (l l' : LedgerModel) (written : WrittenLemma) (old new : LogModel) (trail : TrailModel) (restarts since level : ℕ) → Wrote s why learnt l written old new → Gone s learnt written l l' trail restarts since level → WentBack s why learnt.lemma learnt.back learnt.places.items trail l'.written l.written l.clause_lines restarts since level
went_of s why learnt l l' written old new trail restarts since level w g = record {
  numbers = w.numbers;
  next = g.next;
  at = g.at;
  taken = ap (λ (x : LedgerModel). x.written) g.left ∙ ap (λ (x : TrailModel). take (length x.events) l.written) g.at;
}

-- what the fields hold then
abbrev pub back_in : SearchModel → TrailModel → List Stored → LedgerModel → ℕ → ℕ → SearchModel
back_in s trail stored l restarts since = went s trail stored l.written l.clause_lines restarts since

lines_same : (s : SearchModel) (trail : TrailModel) (stored : List Stored) (l l' : LedgerModel) (restarts since count : ℕ) → l' ≡ with_events_left l count → went s trail stored l'.written l.clause_lines restarts since ≡ back_in s trail stored l' restarts since
lines_same s trail stored l l' restarts since count left = ap (λ n. went s trail stored l'.written n restarts since) (sym (ap (λ (x : LedgerModel). x.clause_lines) left))

-- what was tidied, by the lemma that was learnt
tidied_of : {A : Type 0} (s : SearchModel) (why : Why) (learnt : Learnt) (l : LedgerModel) (written : WrittenLemma) (old wrote new : LogModel) (trail : TrailModel) (level : ℕ) (result : Result A LogStop) (stored : List Stored) → Wrote s why learnt l written old wrote → trail ≡ back_to s.trail level → TidiesBy l (length trail.events) written s.stored result stored wrote new
    → Tidies s.stored (record { number = l.clause_lines; clause = learnt.lemma }) l.written (length (back_to s.trail level).events) written.conflict result stored wrote new
tidied_of s why learnt l written old wrote new trail level result stored w at h =
    subst (λ (x : TrailModel). Tidies s.stored (record { number = l.clause_lines; clause = learnt.lemma }) l.written (length x.events) written.conflict result stored wrote new) at
    (subst (λ (xs : List Lit). Tidies s.stored (record { number = l.clause_lines; clause = xs }) l.written (length trail.events) written.conflict result stored wrote new) w.same_lemma h)

pub back_search : (s : SearchModel) (why : Why) (learnt : Learnt) (l l' : LedgerModel) (written : WrittenLemma) (old wrote new : LogModel) (trail : TrailModel) (restarts since level : ℕ) (stored : List Stored) → Wrote s why learnt l written old wrote → Gone s learnt written l l' trail restarts since level → TidiesBy {A = Unit {0}} l (length trail.events) written s.stored (Ok tt) stored wrote new
    → IsSearch (back_in s trail stored l' restarts since)
back_search s why learnt l l' written old wrote new trail restarts since level stored w g h =
    let t = tidied_of {A = Unit {0}} s why learnt l written old wrote new trail level (Ok tt) stored w g.at h in
    subst IsSearch (lines_same s trail stored l l' restarts since (length trail.events) g.left)
    (went_search s why learnt.lemma learnt.back learnt.places.items trail stored l'.written l.written l.clause_lines restarts since level w.teaches (literal_here s why learnt l written old wrote w g.some) (went_of s why learnt l l' written old wrote trail restarts since level w g) t.0)

pub back_stopped : (s : SearchModel) (why : Why) (learnt : Learnt) (l l' : LedgerModel) (written : WrittenLemma) (old wrote new : LogModel) (trail : TrailModel) (restarts since level : ℕ) (stored : List Stored) (stop : LogStop) → Wrote s why learnt l written old wrote → Gone s learnt written l l' trail restarts since level → TidiesBy {A = Unit {0}} l (length trail.events) written s.stored (Err stop) stored wrote new
    → IsSearch (record (back_in s trail stored l' restarts since) { over = true })
back_stopped s why learnt l l' written old wrote new trail restarts since level stored stop w g h =
    let t = tidied_of {A = Unit {0}} s why learnt l written old wrote new trail level (Err stop) stored w g.at h in
    subst (λ (x : SearchModel). IsSearch (record x { over = true })) (lines_same s trail stored l l' restarts since (length trail.events) g.left)
    (stopped_past s why learnt.lemma learnt.back learnt.places.items trail stored l'.written l.written l.clause_lines restarts since level stop w.teaches (literal_here s why learnt l written old wrote w g.some) (went_of s why learnt l l' written old wrote trail restarts since level w g) t.0)

-- ---- the answers

pub back_meets : (e u : EngineModel) (why : Why) (learnt : Learnt) (l l' : LedgerModel) (written : WrittenLemma) (old wrote new : LogModel) (trail : TrailModel) (restarts since level : ℕ) (stored : List Stored) → e ≡ u → Wrote e.search why learnt l written old wrote → Gone e.search learnt written l l' trail restarts since level → TidiesBy {A = Unit {0}} l (length trail.events) written e.search.stored (Ok tt) stored wrote new
    → TurnsFrom (Conflict why) u.search old turns.Lemma (back_in e.search trail stored l' restarts since) new
back_meets e u why learnt l l' written old wrote new trail restarts since level stored same w g h s b settles =
    let mid = e.search in
    let settles' : Settles s mid (Conflict why) = settled_here e u s why same settles in
    let t = tidied_of {A = Unit {0}} mid why learnt l written old wrote new trail level (Ok tt) stored w g.at h in
    subst (λ x. TurnMeets s old turns.Lemma x new) (lines_same mid trail stored l l' restarts since (length trail.events) g.left)
    (went_meets s mid why learnt.lemma learnt.back learnt.places.items trail stored l'.written l.written l.clause_lines restarts since level written.conflict t.1.0 old wrote new b settles' w.teaches (literal_here mid why learnt l written old wrote w g.some) (went_of mid why learnt l l' written old wrote trail restarts since level w g) w.own t.0 w.lines t.1.1 t.1.2)

pub stopped_meets : (e u : EngineModel) (why : Why) (learnt : Learnt) (l l' : LedgerModel) (written : WrittenLemma) (old wrote new : LogModel) (trail : TrailModel) (restarts since level : ℕ) (stored : List Stored) (stop : LogStop) (turn : Turn) → e ≡ u → Wrote e.search why learnt l written old wrote → Gone e.search learnt written l l' trail restarts since level → TidiesBy {A = Unit {0}} l (length trail.events) written e.search.stored (Err stop) stored wrote new → turn ≡ turn_of stop
    → TurnsFrom (Conflict why) u.search old turn (record (back_in e.search trail stored l' restarts since) { over = true }) new
stopped_meets e u why learnt l l' written old wrote new trail restarts since level stored stop turn same w g h is s b settles =
    let mid = e.search in
    let settles' : Settles s mid (Conflict why) = settled_here e u s why same settles in
    let t = tidied_of {A = Unit {0}} mid why learnt l written old wrote new trail level (Err stop) stored w g.at h in
    let after : SearchModel = record (back_in mid trail stored l' restarts since) { over = true } in
    turned s old new (turn_of stop) turn after after is refl
    (subst (λ (x : SearchModel). TurnMeets s old (turn_of stop) (record x { over = true }) new) (lines_same mid trail stored l l' restarts since (length trail.events) g.left)
    (stop_meets_past s mid why learnt.lemma learnt.back learnt.places.items trail stored l'.written l.written l.clause_lines restarts since level written.conflict stop t.1.0 old wrote new b settles' (same_mid s mid settles'.implies).stored w.teaches (literal_here mid why learnt l written old wrote w g.some) (went_of mid why learnt l l' written old wrote trail restarts since level w g) w.own t.0 w.lines t.1.1 t.1.2))
