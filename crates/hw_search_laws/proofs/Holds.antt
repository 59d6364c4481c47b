-- The lines that a search writes are valid and lean, and its lemmas are new.
use Rattle.std.proofs.Common.{◌≡◌, ◌⊎◌, ℕ, zero, suc, ◌+◌, ◌-◌, ◌^◌, ◌<◌, ◌≤◌, false, cond, nat_lt, true, List, [], ◌∷◌, ◌++◌, Option, Some, None, length, get_or, option_and_then, All, IsSome, IsSomeAnd, IsTrue, refl, sym, ap, ◌∙◌, subst, arith, inl, inr, append-nil, append_assoc}
use Rattle.std.specs.Prelude.{Contains, Any, AllPairs}
use Rattle.std.specs.List.{cons_option}
use Rattle.std.proofs.lemmas.Bool.{ltb-true, lt-ltb, le-ltb, cases_lt}
use Rattle.std.proofs.lemmas.List.Elements.{All-head, All-tail, All-get_or}
use Rattle.std.proofs.lemmas.List.Quantifiers.{all_pairs_push}
use Rattle.hw_model.specs.declared.lit.Lit.{Lit}
use Rattle.hw_model.specs.declared.source.Source.{Source}
use Rattle.hw_model.specs.declared.source.Source.TheVariants as sources
use Rattle.hw_model.specs.Problem.{Problem, shape_of}
use Rattle.hw_model.specs.Timetables.{Permits, cargo, beats}
use Rattle.hw_model.specs.Lits.{clause_holds, IsClause}
use Rattle.hw_model.specs.Rooms.{RoomFits, RoomWithin}
use Rattle.hw_model.specs.Narrowing.{denied}
use Rattle.hw_model.specs.Refuting.{Refutes, IsSourceOf, NothingRefutes}
use Rattle.hw_model.specs.Refuting.{source_of}
use Rattle.hw_model.specs.Replay.{replay, conflict, QuietClause}
use Rattle.hw_model_laws.proofs.Rises.{rising}
use Rattle.hw_cert_lines.specs.declared.line.Line.{Line}
use Rattle.hw_cert_lines.specs.declared.line.Line.TheVariants as lines
use Rattle.hw_cert_lines.specs.Tolled.{is_plain, tolls_of, tariff_after, tariff_of}
use Rattle.hw_cert_lines.specs.Lines.{source_line, clause_count, clause_at, live, best_of, is_closed}
use Rattle.hw_cert_lines.specs.Valid.{LineFits, PricedHolds, ValidAfter, ValidFrom, denied_room, hinted}
use Rattle.hw_cert_lines.specs.Lemmas.{IsHinted, LeanAfter, LeanFrom}
use Rattle.hw_cert_lines.proofs.Pushed.{tariff_push}
use Rattle.hw_price_laws.specs.declared.tariff.Tariff.{Tariff}
use Rattle.hw_price_laws.specs.declared.toll.Toll.{Toll}
use Rattle.hw_price_laws.specs.Prices.{PricesRefute}
use Rattle.hw_model.specs.Quiet.{SpeaksOnlyOf}
use Rattle.hw_trail_laws.specs.declared.event.Why.{Why}
use Rattle.hw_trail_laws.specs.declared.event.Why.TheVariants as whys
use Rattle.hw_trail_laws.specs.Trails.{TrailModel, trail_shape, room_of, IsTrail, back_to}
use Rattle.hw_trail_laws.specs.Learning.{event_of, level_by, level_made, top_level, chain_of, Learns, QuietBelow}
use Rattle.hw_trail_laws.proofs.Kept.{levels_low}
use Rattle.hw_trail_laws.proofs.Levels.{top_reached}
use Rattle.hw_trail_laws.proofs.Decisions.{level_here}
use Rattle.std.proofs.lemmas.Option.{slice_get_past}
use Rattle.hw_model.specs.Rooms.{IsRoomOf}
use Rattle.hw_rules.proofs.Numbers.{window_at}
use Rattle.hw_trail_laws.proofs.Trails.{room_known, room_end}
use Rattle.hw_trail_laws.proofs.Quiets.{not_within, none_within}
use Rattle.hw_trail_laws.specs.Walks.{InClause}
use Rattle.hw_cert_laws.proofs.Naming.{some_live as live_is}
use Rattle.hw_search_laws.specs.Searches.{SearchModel, IsReason, OfBetter, PricesShow, FitsOpen, room_in, lemmas_in, best_cargo}
use Rattle.hw_search_laws.specs.Settling.{AllQuiet}
use Rattle.hw_search_laws.proofs.Shapes.{denied_same, clause_same}

-- ---- lists of lines

pub valid_push : (f : Problem) (before more : List Line) (line : Line) → ValidFrom f before more → ValidAfter f (before ++ more) line → ValidFrom f before (more ++ line ∷ [])
valid_push f before [] line v h = (subst (λ xs. ValidAfter f xs line) (append-nil before) h, tt)
valid_push f before (x ∷ more) line v h = (v.0, valid_push f (before ++ x ∷ []) more line v.1 (subst (λ xs. ValidAfter f xs line) (sym (append_assoc before (x ∷ []) more)) h))

pub lean_push : (f : Problem) (before more : List Line) (line : Line) → LeanFrom f before more → LeanAfter f (before ++ more) line → LeanFrom f before (more ++ line ∷ [])
lean_push f before [] line v h = (subst (λ xs. LeanAfter f xs line) (append-nil before) h, tt)
lean_push f before (x ∷ more) line v h = (v.0, lean_push f (before ++ x ∷ []) more line v.1 (subst (λ xs. LeanAfter f xs line) (sym (append_assoc before (x ∷ []) more)) h))

-- ---- the line of a source

pub best_same : (s : SearchModel) (before : List Line) → FitsOpen before s → best_of s.problem before ≡ best_cargo s
best_same s before fit = ap (option_and_then (cargo s.problem)) fit.best

rule_is : (f : Problem) (place : ℕ) → source_of f (f.ships + place) ≡ sources.Rule place
rule_is f place =
    let past : nat_lt (f.ships + place) f.ships ≡ false = le-ltb _ _ (omega arith) in
    let back : f.ships + place - f.ships ≡ place = omega arith in
    ap (λ b. cond b (sources.Window (f.ships + place)) (sources.Rule (f.ships + place - f.ships))) past ∙ ap (λ n. sources.Rule n) back

-- a line is of the shape, valid and lean, and plain where no prices are in force
pub record Writes (f : Problem) (before : List Line) (line : Line) : Type 0 where
  pub plain : tariff_of before ≡ None → is_plain line ≡ true
  pub fits : LineFits f line
  pub valid : ValidAfter f before line
  pub lean : LeanAfter f before line

pub source_writes : (f : Problem) (before : List Line) (source : Source) (clause : List Lit) → IsSourceOf f source → IsClause (shape_of f) clause → Refutes f source (best_of f before) (denied_room f clause) → SpeaksOnlyOf f source clause → is_closed before ≡ false → clause_count before + 1 < 2 ^ 32 → Writes f before (source_line f source clause)
source_writes f before (sources.Window ship) clause of is refutes speaks goes few = record {
  plain = λ none. refl;
  fits = (omega (arith, of), is);
  valid = record { goes_on = goes; numbered = few; claim = subst (λ x. Refutes f x (best_of f before) (denied_room f clause)) (sym (window_at f ship of)) refutes };
  lean = subst (λ x. SpeaksOnlyOf f x clause) (sym (window_at f ship of)) speaks;
}
source_writes f before (sources.Rule place) clause of is refutes speaks goes few = record {
  plain = λ none. refl;
  fits = (omega (arith, of), is);
  valid = record { goes_on = goes; numbered = few; claim = subst (λ x. Refutes f x (best_of f before) (denied_room f clause)) (sym (rule_is f place)) refutes };
  lean = subst (λ x. SpeaksOnlyOf f x clause) (sym (rule_is f place)) speaks;
}
source_writes f before (sources.Order v w x) clause of is refutes speaks goes few = record {
  plain = λ none. refl;
  fits = (of.0, of.1, of.2, is);
  valid = record { goes_on = goes; numbered = few; claim = refutes };
  lean = speaks;
}
source_writes f before sources.Goal clause of is refutes speaks goes few = record {
  plain = λ none. refl;
  fits = is;
  valid = record { goes_on = goes; numbered = few; claim = refutes };
  lean = speaks;
}

-- ---- the line of a clause of prices

some_tariff : {A : Type 0} (o : Option A) (P : A → Type 0) → IsSomeAnd o P → o ≡ None → ⊥
some_tariff None P h e = h
some_tariff (Some x) P h e = cc

-- plain lines change no prices in force
pub plain_stays : (last : Option Tariff) (line : Line) → is_plain line ≡ true → tariff_after last line ≡ last
plain_stays last (lines.Table table) e = refl
plain_stays last (lines.Explain n clause) e = refl
plain_stays last (lines.Order v w x clause) e = refl
plain_stays last (lines.Goal clause) e = refl
plain_stays last (lines.Lemma clause hints) e = refl
plain_stays last (lines.Delete ids) e = refl
plain_stays last (lines.Toll toll) e = refl
plain_stays last (lines.Tariff tariff) e = absurd cc
plain_stays last (lines.Priced clause) e = refl
plain_stays last (lines.Bound bound) e = refl

pub plain_tariff : (before more : List Line) → All (λ line. is_plain line ≡ true) more → tariff_of (before ++ more) ≡ tariff_of before
plain_tariff before [] all = ap tariff_of (append-nil before)
plain_tariff before (line ∷ more) all =
    ap tariff_of (sym (append_assoc before (line ∷ []) more))
    ∙ plain_tariff (before ++ line ∷ []) more (All-tail (λ line. is_plain line ≡ true) line more all)
    ∙ tariff_push before line
    ∙ plain_stays (tariff_of before) line (All-head (λ line. is_plain line ≡ true) line more all)

pub priced_writes : (f : Problem) (before : List Line) (clause : List Lit) → IsClause (shape_of f) clause → PricedHolds f before clause → SpeaksOnlyOf f sources.Goal clause → is_closed before ≡ false → clause_count before + 1 < 2 ^ 32 → Writes f before (lines.Priced clause)
priced_writes f before clause is refutes speaks goes few = record {
  plain = λ none. absurd (some_tariff (tariff_of before) (λ tariff. PricesRefute f (tolls_of before) tariff (best_of f before) (denied_room f clause)) refutes none);
  fits = is;
  valid = record { goes_on = goes; numbered = few; claim = refutes };
  lean = speaks;
}

-- what the prices in force show, lines that tell them show too
pub priced_holds : (s : SearchModel) (before : List Line) (clause : List Lit) → FitsOpen before s → PricesShow s clause → PricedHolds s.problem before clause
priced_holds s before clause fit show =
    subst (λ (o : Option Tariff). IsSomeAnd o (λ tariff. PricesRefute s.problem (tolls_of before) tariff (best_of s.problem before) (denied_room s.problem clause))) (sym fit.prices.tariff)
    (subst (λ (ts : List Toll). IsSomeAnd s.prices.tariff (λ tariff. PricesRefute s.problem ts tariff (best_of s.problem before) (denied_room s.problem clause))) (sym fit.prices.tolls)
    (subst (λ (best : Option ℕ). IsSomeAnd s.prices.tariff (λ tariff. PricesRefute s.problem s.prices.tolls tariff best (denied_room s.problem clause))) (sym (best_same s before fit)) show.refuted))

-- ---- a table

pub room_fits : (s : SearchModel) → IsTrail s.trail → s.trail.ships ≡ s.problem.ships → s.trail.slots ≡ s.problem.slots → RoomFits s.problem (room_in s)
room_fits s is ships slots =
    let k = (room_known s.trail is (length s.trail.events) (omega arith)).of in
    let o : IsRoomOf (trail_shape s.trail) (room_of s.trail) = subst (IsRoomOf (trail_shape s.trail)) (room_end s.trail) k in
    record { is_room = o.is_room; same_ships = o.same_ships ∙ ships; same_slots = o.same_slots ∙ slots }

pub nothing_refutes : (s : SearchModel) → AllQuiet s → NothingRefutes s.problem (best_cargo s) (room_in s)
nothing_refutes s q = record {
  no_window = λ ship lt. (q.sources (sources.Window ship) lt).here;
  no_rule = λ place lt. (q.sources (sources.Rule place) lt).here;
  not_goal = (q.sources sources.Goal tt).here;
}

pub table_writes : (s : SearchModel) (before : List Line) (table : List ℕ) (c : ℕ) → FitsOpen before s → Permits s.problem table → cargo s.problem table ≡ Some c → IsTrue (beats c (best_cargo s)) → Writes s.problem before (lines.Table table)
table_writes s before table c fit permits value above = record {
  plain = λ none. refl;
  fits = permits.listed;
  valid = record {
    goes_on = fit.none_empty;
    numbered = tt;
    claim = (permits, subst (λ o. IsSomeAnd (cargo s.problem table) (λ d. IsTrue (beats d o))) (sym (best_same s before fit)) (subst (λ o. IsSomeAnd o (λ d. IsTrue (beats d (best_cargo s)))) (sym value) above));
  };
  lean = tt;
}

pub beats_more : (d c : ℕ) (best : Option ℕ) → IsTrue (beats c best) → IsTrue (beats d (Some c)) → IsTrue (beats d best)
beats_more d c None h e = refl
beats_more d c (Some b) h e =
    let less : b < c = ltb-true _ _ h in
    let more : c < d = ltb-true _ _ e in
    lt-ltb _ _ (omega (arith, less, more))

-- what holds of each that beats the best holds of each that beats a better best
pub better_true : (s : SearchModel) (table : List ℕ) (c : ℕ) (P : List ℕ → Type 0) → cargo s.problem table ≡ Some c → IsTrue (beats c (best_cargo s)) → OfBetter s P → OfBetter (record s { best = Some table }) P
better_true s table c P worth above h other d permits e over = h other d permits e (beats_more d c (best_cargo s) above (subst (λ o. IsTrue (beats d o)) worth over))

-- a reason stays one under a better best
pub reason_rises : (s : SearchModel) (table : List ℕ) (c : ℕ) → cargo s.problem table ≡ Some c → IsTrue (beats c (best_cargo s)) → (why : Why) → IsReason s why → IsReason (record s { best = Some table }) why
reason_rises s table c e above (whys.Lemma number clause) h = h
reason_rises s table c e above (whys.Priced clause) h = better_true s table c (λ t. IsTrue (clause_holds t clause)) e above h
reason_rises s table c e above (whys.Source source clause) h = (h.0, subst (λ o. Refutes s.problem source o (denied_room s.problem clause)) (sym e) (rising s.problem source (best_cargo s) c (denied_room s.problem clause) above h.1), h.2)

-- ---- a lemma

any_cases : {A : Type 0} (P : A → Type 0) (x : A) (xs : List A) → Any P (x ∷ xs) → P x ⊎ Any P xs
any_cases {A = A} P x xs h = at h.0 h.1 h.2 h.3 h.4
  where
    at : (k : ℕ) (y : A) → k < length (x ∷ xs) → get_or (x ∷ xs) k y ≡ y → P y → P x ⊎ Any P xs
    at zero y lt e p = inl (subst P (sym e) p)
    at (suc k) y lt e p = inr (k, y, omega (arith, lt), e, p)

any_here : {A : Type 0} (P : A → Type 0) (x : A) (xs : List A) → P x → Any P (x ∷ xs)
any_here P x xs p = (0, x, omega arith, refl, p)

any_there : {A : Type 0} (P : A → Type 0) (x : A) (xs : List A) → Any P xs → Any P (x ∷ xs)
any_there P x xs h = (suc h.0, h.1, omega (arith, h.2), h.3, h.4)

any_none : {A : Type 0} (P : A → Type 0) → Any P [] → ⊥
any_none P h = omega (arith, h.2)

hinted_by : (before : List Line) (lit : Lit) (id : ℕ) (hints : List ℕ) (o : Option (List Lit)) → live before id ≡ o → IsSome (live before id) → (Any (λ other. Contains other lit) (hinted before hints) → IsHinted before hints lit) → Any (λ other. Contains other lit) (cons_option o (hinted before hints)) → IsHinted before (id ∷ hints) lit
hinted_by before lit id hints None e h k a = any_there (λ i. IsSomeAnd (clause_at before i) (λ clause. Contains clause lit)) id hints (k a)
hinted_by before lit id hints (Some c) e h k a = elim (any_cases (λ other. Contains other lit) c (hinted before hints) a) [
  | inl here ↦ any_here (λ i. IsSomeAnd (clause_at before i) (λ clause. Contains clause lit)) id hints (subst (λ o. IsSomeAnd o (λ clause. Contains clause lit)) (sym (sym (live_is before id h) ∙ e)) here)
  | inr more ↦ any_there (λ i. IsSomeAnd (clause_at before i) (λ clause. Contains clause lit)) id hints (k more)
]

any_hinted : (before : List Line) (lit : Lit) (hints : List ℕ) → All (λ id. IsSome (live before id)) hints → Any (λ other. Contains other lit) (hinted before hints) → IsHinted before hints lit
any_hinted before lit [] h a = absurd (any_none (λ other. Contains other lit) a)
any_hinted before lit (id ∷ hints) h a = hinted_by before lit id hints (live before id) refl (All-head (λ id. IsSome (live before id)) id hints h) (any_hinted before lit hints (All-tail (λ id. IsSome (live before id)) id hints h)) a

-- the shape of the trail is the problem's
pub trail_clause : (s : SearchModel) → s.trail.ships ≡ s.problem.ships → s.trail.slots ≡ s.problem.slots → (c : List Lit) → IsClause (trail_shape s.trail) c → IsClause (shape_of s.problem) c
trail_clause s e f c h = clause_same (trail_shape s.trail) (shape_of s.problem) e f c h

pub problem_clause : (s : SearchModel) → s.trail.ships ≡ s.problem.ships → s.trail.slots ≡ s.problem.slots → (c : List Lit) → IsClause (shape_of s.problem) c → IsClause (trail_shape s.trail) c
problem_clause s e f c h = clause_same (shape_of s.problem) (trail_shape s.trail) (sym e) (sym f) c h

pub trail_denied : (s : SearchModel) → s.trail.ships ≡ s.problem.ships → s.trail.slots ≡ s.problem.slots → (c : List Lit) → denied (trail_shape s.trail) c ≡ denied_room s.problem c
trail_denied s e f c = denied_same (trail_shape s.trail) (shape_of s.problem) e f c

pub lemma_writes : (s : SearchModel) (before : List Line) (clause lemma : List Lit) (back : ℕ) (places hints : List ℕ) → s.trail.ships ≡ s.problem.ships → s.trail.slots ≡ s.problem.slots → Learns s.trail clause lemma back places
    → hinted before hints ≡ chain_of s.trail places clause → All (λ id. IsSome (live before id)) hints → is_closed before ≡ false → clause_count before + 1 < 2 ^ 32 → Writes s.problem before (lines.Lemma lemma hints)
lemma_writes s before clause lemma back places hints ships slots h e live' goes few = record {
  plain = λ none. refl;
  fits = trail_clause s ships slots lemma h.fits;
  valid = record {
    goes_on = goes;
    numbered = few;
    claim = (live', subst (λ r. replay r (hinted before hints) ≡ conflict) (trail_denied s ships slots lemma) (subst (λ cs. replay (denied (trail_shape s.trail) lemma) cs ≡ conflict) (sym e) h.replays));
  };
  lean = λ k d lt. any_hinted before (get_or lemma k d) hints live' (subst (λ cs. Any (λ other. Contains other (get_or lemma k d)) cs) (sym e) (h.lean k d lt));
}

-- ---- new lemmas

level_low : (t : TrailModel) → IsTrail t → (o : Option ℕ) → level_made t o ≤ t.level
level_low t is None = omega arith
level_low t is (Some p) = elim (cases_lt p (length t.events)) [
  | inl lt ↦ omega (arith, level_here t p lt, levels_low t is p lt)
  | inr past ↦ omega (arith, ap level_by (slice_get_past t.events p past))
]

pub top_low : (t : TrailModel) → IsTrail t → (clause : List Lit) → top_level t clause ≤ t.level
top_low t is clause = elim (top_reached t clause) [
  | inl e ↦ omega (arith, e)
  | inr r ↦ omega (arith, r.2, level_low t is (event_of t r.0))
]

first_in : (c : List Lit) → 1 ≤ length c → (l : Lit) × InClause l c
first_in [] h = absurd (omega (arith, h))
first_in (l ∷ c) h = (l, inl refl)

pub lemma_apart : (s : SearchModel) → IsTrail s.trail → s.trail.ships ≡ s.problem.ships → s.trail.slots ≡ s.problem.slots → QuietBelow s.trail (lemmas_in s) → (clause lemma : List Lit) (back : ℕ) (places : List ℕ) → Learns s.trail clause lemma back places → top_level s.trail clause ≤ s.trail.level
    → (old : List Lit) → IsClause (shape_of s.problem) old → 1 ≤ length old → ((level : ℕ) → level < s.trail.level → QuietClause old (room_of (back_to s.trail level))) → RoomWithin (denied_room s.problem lemma) (denied_room s.problem old) → ⊥
lemma_apart s is ships slots quiet clause lemma back places h up old fits some quiet' inside =
    let fo = problem_clause s ships slots old fits in
    let inside' : RoomWithin (denied (trail_shape s.trail) lemma) (denied (trail_shape s.trail) old) = subst (λ r. RoomWithin r (denied (trail_shape s.trail) old)) (sym (trail_denied s ships slots lemma)) (subst (λ r. RoomWithin (denied_room s.problem lemma) r) (sym (trail_denied s ships slots old)) inside) in
    elim (cases_lt 0 (top_level s.trail clause)) [
      | inl above ↦ not_within s.trail is clause lemma back places old h above fo (quiet' (top_level s.trail clause - 1) (omega (arith, above, up))) inside'
      | inr ground ↦
          let g = h.ground (omega (arith, ground)) in
          let l = first_in old some in
          none_within (trail_shape s.trail) old l.0 is.shape fo l.1 (subst (λ c. RoomWithin (denied (trail_shape s.trail) c) (denied (trail_shape s.trail) old)) g.0 inside')
    ]

pub lemmas_new : (s : SearchModel) → IsTrail s.trail → s.trail.ships ≡ s.problem.ships → s.trail.slots ≡ s.problem.slots → QuietBelow s.trail (lemmas_in s) → All (IsClause (shape_of s.problem)) (lemmas_in s) → All (λ c. 1 ≤ length c) (lemmas_in s)
    → AllPairs (λ earlier later. RoomWithin (denied_room s.problem later) (denied_room s.problem earlier) → ⊥) (lemmas_in s) → (clause lemma : List Lit) (back : ℕ) (places : List ℕ) → Learns s.trail clause lemma back places → top_level s.trail clause ≤ s.trail.level
    → AllPairs (λ earlier later. RoomWithin (denied_room s.problem later) (denied_room s.problem earlier) → ⊥) (lemmas_in s ++ lemma ∷ [])
lemmas_new s is ships slots quiet fits some new clause lemma back places h up =
    all_pairs_push (λ earlier later. RoomWithin (denied_room s.problem later) (denied_room s.problem earlier) → ⊥) (lemmas_in s) lemma new (λ k d lt.
    lemma_apart s is ships slots quiet clause lemma back places h up (get_or (lemmas_in s) k d) (All-get_or (IsClause (shape_of s.problem)) (lemmas_in s) k d lt fits) (All-get_or (λ c. 1 ≤ length c) (lemmas_in s) k d lt some)
    (λ level below. All-get_or (λ c. QuietClause c (room_of (back_to s.trail level))) (lemmas_in s) k d lt (quiet level below)))
