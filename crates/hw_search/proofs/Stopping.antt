-- A turn that stopped because memory ran out or the log failed.
use Rattle.std.proofs.Common.{◌≡◌, ℕ, zero, suc, ◌+◌, ◌≤◌, ◌||◌, Bool, true, false, List, [], ◌∷◌, ◌++◌, Option, Some, None, IsSomeAnd, All, length, take, drop, fold, slice_get, refl, sym, ap, ◌∙◌, subst, arith, append-nil, append_assoc}
use Rattle.std.specs.List.{list_any}
use Rattle.std.proofs.lemmas.List.{length-map, take-append-drop}
use Rattle.std.proofs.lemmas.List.Elements.{All-head, All-tail, All-nil, All-push, All-take}
use Rattle.hw_model.specs.declared.lit.Lit.{Lit}
use Rattle.hw_model.specs.declared.source.Source.{Source}
use Rattle.hw_model.specs.Problem.{Problem}
use Rattle.hw_cert_lines.specs.declared.line.Line.{Line}
use Rattle.hw_cert_lines.specs.declared.line.Line.TheVariants as lines
use Rattle.hw_cert_lines.specs.Lines.{source_line, clause_count, clause_of as clause_in, table_after, last_table, is_closed, is_end}
use Rattle.hw_cert_lines.specs.Tolled.{is_plain, tariff_of}
use Rattle.hw_cert_lines.specs.Valid.{LineFits, ValidAfter, ValidFrom}
use Rattle.hw_cert_lines.specs.Lemmas.{lemma_of, lemmas_of, LeanAfter, LeanFrom}
use Rattle.hw_cert_lines.proofs.Pushed.{last_push}
use Rattle.hw_trail_laws.specs.declared.event.Why.{Why}
use Rattle.hw_trail_laws.specs.declared.event.Why.TheVariants as whys
use Rattle.hw_trail_laws.specs.Trails.{most_events}
use Rattle.hw_cert.specs.declared.log.LogStop.{LogStop}
use Rattle.hw_cert.specs.declared.log.LogStop.TheVariants as stops
use Rattle.hw_cert.specs.Logs.{LogTold, LogModel, Grows, IsBegunLine}
use Rattle.hw_store.specs.declared.store.Stored.{Stored}
use Rattle.hw_search_laws.specs.declared.outcome.Turn.{Turn}
use Rattle.hw_search_laws.specs.declared.outcome.Turn.TheVariants as turns
use Rattle.hw_search_laws.specs.Searches.{SearchModel, IsSearch, LogFits, why_at, written_at}
use Rattle.hw_search_laws.specs.Living.{FewLiveFrom}
use Rattle.hw_search_laws.specs.Turns.{why_lines, Cited, cite_by, cite, cited, cite_conflict, lines_of_turn, Plans, WritesPart, FailsPart, FailsNext, TurnStops, WritesWell, TurnWrites, TurnMeets}
use Rattle.hw_search_laws.proofs.Lines.{source_is, source_no_lemma, same_lemmas}
use Rattle.hw_search_laws.proofs.Parts.{part_well}
use Rattle.hw_search_laws.proofs.Told.{grown}
use Rattle.hw_search_ledger.specs.Handing.{StopCause, StopsAfter}
use Rattle.hw_search.specs.Turning.{TurnBegins, turn_of}
use Rattle.hw_search_ledger.proofs.Handed.{grown_with, take_front, get_front}
use Rattle.hw_search.proofs.Plain.{tariff_before}

-- ---- lines that give reasons

-- the line is no table and no lemma
pub record Sourced (line : Line) : Type 0 where
  pub no_table : (last : Option (List ℕ)) → table_after last line ≡ last
  pub no_lemma : lemma_of line ≡ None

source_sourced : (f : Problem) (source : Source) (clause : List Lit) → Sourced (source_line f source clause)
source_sourced f source clause = record { no_table = (source_is f source clause).no_table; no_lemma = source_no_lemma f source clause }

priced_sourced : (clause : List Lit) → Sourced (lines.Priced clause)
priced_sourced clause = record { no_table = λ last. refl; no_lemma = refl }

sourced_by : (c : Cited) (q : ℕ) (o : Option Why) (w : Option ℕ) → All Sourced c.lines → All Sourced (cite_by c q o w).lines
sourced_by c q None w h = h
sourced_by c q (Some (whys.Lemma number clause)) w h = h
sourced_by c q (Some (whys.Source source clause)) (Some n) h = h
sourced_by c q (Some (whys.Source source clause)) None h = All-push Sourced c.lines (source_line c.search.problem source clause) h (source_sourced c.search.problem source clause)
sourced_by c q (Some (whys.Priced clause)) (Some n) h = h
sourced_by c q (Some (whys.Priced clause)) None h = All-push Sourced c.lines (lines.Priced clause) h (priced_sourced clause)

fold_sourced : (c : Cited) (qs : List ℕ) → All Sourced c.lines → All Sourced (fold cite c qs).lines
fold_sourced c [] h = h
fold_sourced c (q ∷ qs) h = fold_sourced (cite c q) qs (sourced_by c q (why_at c.search.trail q) (written_at c.search q) h)

conflict_sourced : (c : Cited) (why : Why) → All Sourced c.lines → All Sourced (cite_conflict c why).lines
conflict_sourced c (whys.Lemma number clause) h = h
conflict_sourced c (whys.Source source clause) h = All-push Sourced c.lines (source_line c.search.problem source clause) h (source_sourced c.search.problem source clause)
conflict_sourced c (whys.Priced clause) h = All-push Sourced c.lines (lines.Priced clause) h (priced_sourced clause)

pub cited_sourced : (s : SearchModel) (places : List ℕ) (why : Why) → All Sourced (cite_conflict (cited s places) why).lines
cited_sourced s places why = conflict_sourced (cited s places) why (fold_sourced (record { search = s; lines = []; hints = [] }) places (All-nil Sourced))

-- the line of a reason is one of them
pub why_sourced : (f : Problem) (why : Why) → All Sourced (why_lines f why)
why_sourced f (whys.Lemma number clause) = All-nil Sourced
why_sourced f (whys.Source source clause) = All-push Sourced [] (source_line f source clause) (All-nil Sourced) (source_sourced f source clause)
why_sourced f (whys.Priced clause) = All-push Sourced [] (lines.Priced clause) (All-nil Sourced) (priced_sourced clause)

pub same_table : (before xs : List Line) → All Sourced xs → last_table (before ++ xs) ≡ last_table before
same_table before [] h = ap last_table (append-nil before)
same_table before (x ∷ xs) h =
    let one = All-head Sourced x xs h in
    ap last_table (sym (append_assoc before (x ∷ []) xs)) ∙ same_table (before ++ x ∷ []) xs (All-tail Sourced x xs h) ∙ last_push before x ∙ one.no_table (last_table before)

pub no_lemmas : (before xs : List Line) → All Sourced xs → lemmas_of (before ++ xs) ≡ lemmas_of before
no_lemmas before [] h = ap lemmas_of (append-nil before)
no_lemmas before (x ∷ xs) h =
    let one = All-head Sourced x xs h in
    ap lemmas_of (sym (append_assoc before (x ∷ []) xs)) ∙ no_lemmas (before ++ x ∷ []) xs (All-tail Sourced x xs h) ∙ same_lemmas before x one.no_lemma

any_front : {A : Type 0} (p : A → Bool) (xs ys : List A) → list_any p (xs ++ ys) ≡ false → list_any p xs ≡ false
any_front p [] ys h = refl
any_front p (x ∷ xs) ys h = by (p x) (list_any p (xs ++ ys)) h (any_front p xs ys)
  where
    by : (b rest : Bool) → (b || rest) ≡ false → (rest ≡ false → list_any p xs ≡ false) → (b || list_any p xs) ≡ false
    by true rest e k = absurd cc
    by false rest e k = k e

pub closed_front : (before xs : List Line) (n : ℕ) → is_closed (before ++ xs) ≡ false → is_closed (before ++ take n xs) ≡ false
closed_front before xs n h = any_front (λ line. is_end (clause_in line)) (before ++ take n xs) (drop n xs) (subst (λ ys. is_closed ys ≡ false) (ap (λ ys. before ++ ys) (sym (take-append-drop n xs)) ∙ sym (append_assoc before (take n xs) (drop n xs))) h)

-- ---- what is left

-- lines that were left are those of a search
pub record Left (after : SearchModel) (all : List Line) : Type 0 where
  pub open' : is_closed all ≡ false
  pub best : last_table all ≡ after.best
  pub lemmas : length (lemmas_of all) ≡ after.lemmas

pub left_fit : (s after : SearchModel) (told : LogTold) → IsSearch s → s.over ≡ false → LogFits told s → after.best ≡ s.best → after.lemmas ≡ s.lemmas → Left after told.lines
left_fit s after told is going fit b l = record {
  open' = fit.fits.none_empty;
  best = fit.fits.best ∙ sym b;
  lemmas = ap length fit.fits.lemmas ∙ length-map s.stored (λ (one : Stored). one.clause) ∙ sym (is.counted going) ∙ sym l;
}

pub left_none : (s after : SearchModel) (told : LogTold) (p : List Line) → IsSearch s → s.over ≡ false → LogFits told s → after.best ≡ s.best → after.lemmas ≡ s.lemmas → Left after (told.lines ++ take 0 p)
left_none s after told p is going fit b l = subst (Left after) (sym (ap (λ xs. told.lines ++ xs) (take_none p) ∙ append-nil told.lines)) (left_fit s after told is going fit b l)
  where
    take_none : (p : List Line) → take 0 p ≡ []
    take_none [] = refl
    take_none (x ∷ xs) = refl

pub left_sourced : (s after : SearchModel) (told : LogTold) (xs : List Line) (n : ℕ) → IsSearch s → s.over ≡ false → LogFits told s → All Sourced xs → is_closed (told.lines ++ xs) ≡ false → after.best ≡ s.best → after.lemmas ≡ s.lemmas → Left after (told.lines ++ take n xs)
left_sourced s after told xs n is going fit all shut b l =
    let part = All-take Sourced n xs all in
    let old = left_fit s after told is going fit b l in
    record {
      open' = closed_front told.lines xs n shut;
      best = same_table told.lines (take n xs) part ∙ old.best;
      lemmas = ap length (no_lemmas told.lines (take n xs) part) ∙ old.lemmas;
    }

-- ---- the line that failed

valid_at : (f : Problem) (before plan : List Line) (n : ℕ) (line : Line) → ValidFrom f before plan → slice_get plan n ≡ Some line → ValidAfter f (before ++ take n plan) line
valid_at f before [] n line h e = absurd cc
valid_at f before (x ∷ xs) zero line h e = subst (ValidAfter f (before ++ [])) (let same : x ≡ line = cc in same) (subst (λ ys. ValidAfter f ys x) (sym (append-nil before)) h.0)
valid_at f before (x ∷ xs) (suc n) line h e = subst (λ ys. ValidAfter f ys line) (append_assoc before (x ∷ []) (take n xs)) (valid_at f (before ++ x ∷ []) xs n line h.1 e)

lean_at : (f : Problem) (before plan : List Line) (n : ℕ) (line : Line) → LeanFrom f before plan → slice_get plan n ≡ Some line → LeanAfter f (before ++ take n plan) line
lean_at f before [] n line h e = absurd cc
lean_at f before (x ∷ xs) zero line h e = subst (LeanAfter f (before ++ [])) (let same : x ≡ line = cc in same) (subst (λ ys. LeanAfter f ys x) (sym (append-nil before)) h.0)
lean_at f before (x ∷ xs) (suc n) line h e = subst (λ ys. LeanAfter f ys line) (append_assoc before (x ∷ []) (take n xs)) (lean_at f (before ++ x ∷ []) xs n line h.1 e)

holds_at : (P : Line → Type 0) (plan : List Line) (n : ℕ) (line : Line) → All P plan → slice_get plan n ≡ Some line → P line
holds_at P [] n line h e = absurd cc
holds_at P (x ∷ xs) zero line h e = subst P (let same : x ≡ line = cc in same) (All-head P x xs h)
holds_at P (x ∷ xs) (suc n) line h e = holds_at P xs n line (All-tail P x xs h) e

some_and : {A : Type 0} (o : Option A) (P : A → Type 0) → IsSomeAnd o P → (x : A) × (o ≡ Some x) × P x
some_and None P h = absurd h
some_and (Some x) P h = (x, refl, h)

-- ---- what a turn was about to write

pub record Planned (s : SearchModel) (before p : List Line) : Type 0 where
  pub rest : List Line
  pub planned : Plans s before (p ++ rest)
  pub well : WritesWell s.problem before (p ++ rest)
  pub few_live : FewLiveFrom s.problem before (p ++ rest)
  pub few : clause_count (p ++ rest) ≤ most_events s.problem.ships s.problem.slots + 2

-- the search after a stop
pub record Stopped (s after : SearchModel) : Type 0 where
  pub same_problem : after.problem ≡ s.problem
  pub same_rule : after.branching ≡ s.branching
  pub same_prices : after.prices ≡ s.prices
  pub over : after.over ≡ true
  pub best : after.best ≡ s.best

-- the first `count` lines were written
abbrev Came : LogStop → List Line → (ℕ → Type 0) → LogTold → LogTold → Type 0
Came stop p P was now = (count : ℕ) × P count × StopsAfter stop p count was now

lines_in : (stop : LogStop) (s : SearchModel) (p : List Line) (count : ℕ) (was now : LogTold) → count ≤ length p → StopsAfter stop p count was now → (m : Planned s was.lines p) → now.lines ≡ was.lines ++ take count (p ++ m.rest)
lines_in stop s p count was now le t m = t.lines ∙ ap (λ xs. was.lines ++ xs) (sym (take_front p m.rest count le))

wrote_part : (stop : LogStop) (s : SearchModel) (p : List Line) (count : ℕ) (was now : LogTold) → count ≤ length p → StopsAfter stop p count was now → Planned s was.lines p → WritesPart s was now
wrote_part stop s p count was now le t m = record { plan = p ++ m.rest; planned = m.planned; upto = count; part = lines_in stop s p count was now le t m }

wrote_lines : (stop : LogStop) (turn : Turn) (s : SearchModel) (p : List Line) (count : ℕ) (was now : LogTold) → most_events s.problem.ships s.problem.slots + 2 ≤ lines_of_turn s.problem turn → count ≤ length p → StopsAfter stop p count was now → Planned s was.lines p → TurnWrites s.problem turn was now
wrote_lines stop turn s p count was now most le t m =
    let part = part_well s.problem was.lines (p ++ m.rest) count m.well m.few_live in
    record {
      more = take count (p ++ m.rest);
      lines = lines_in stop s p count was now le t m;
      well = part.well;
      few = omega (arith, part.few, m.few, most);
      few_live = part.few_live;
    }

failed_at : (s : SearchModel) (p : List Line) (count : ℕ) (was now : LogTold) → count ≤ length p → StopsAfter stops.Failed p count was now → Planned s was.lines p → FailsNext s.problem now
failed_at s p count was now le t m =
    let line = some_and (slice_get (p ++ m.rest) count) (λ line. IsBegunLine line now.remainder) (get_front p m.rest count (λ line. IsBegunLine line now.remainder) t.remainder) in
    let e = lines_in stops.Failed s p count was now le t m in (
      line.0,
      λ none. holds_at (λ line. is_plain line ≡ true) (p ++ m.rest) count line.0 (m.well.plain (tariff_before was.lines (take count (p ++ m.rest)) (ap tariff_of (sym e) ∙ none))) line.1,
      holds_at (LineFits s.problem) (p ++ m.rest) count line.0 m.well.fit line.1,
      subst (λ xs. ValidAfter s.problem xs line.0) (sym e) (valid_at s.problem was.lines (p ++ m.rest) count line.0 m.well.valid line.1),
      subst (λ xs. LeanAfter s.problem xs line.0) (sym e) (lean_at s.problem was.lines (p ++ m.rest) count line.0 m.well.lean line.1),
      line.2,
    )

failed_part : (s : SearchModel) (p : List Line) (count : ℕ) (was now : LogTold) → count ≤ length p → StopsAfter stops.Failed p count was now → Planned s was.lines p → FailsPart s was now
unfolding wrote_part
failed_part s p count was now le t m = record {
  written = wrote_part stops.Failed s p count was now le t m;
  next = get_front p m.rest count (λ line. IsBegunLine line now.remainder) t.remainder;
}

left_told : (stop : LogStop) (s after : SearchModel) (p : List Line) (P : ℕ → Type 0) (was now : LogTold) → ((told : LogTold) (count : ℕ) → LogFits told s → P count → Left after (told.lines ++ take count p)) → LogFits was s → Came stop p P was now → Left after now.lines
left_told stop s after p P was now h fit t = subst (Left after) (sym t.2.lines) (h was t.0 fit t.1)

-- the whole of a turn that stopped
pub stop_meets : (s after : SearchModel) (stop : LogStop) (p : List Line) (P : ℕ → Type 0) (old new : LogModel) → TurnBegins s old → Stopped s after → ((count : ℕ) → P count → count ≤ length p) → old.faults ≤ new.faults → StopCause stop old new → Grows old new (Came stop p P) → ((was : LogTold) → LogFits was s → Planned s was.lines p)
    → ((told : LogTold) (count : ℕ) → LogFits told s → P count → Left after (told.lines ++ take count p)) → TurnStops (turn_of stop) s after old new → TurnMeets s old (turn_of stop) after new
stop_meets s after stops.Failed p P old new b st inside later cause g plan left stops' = record {
  later = later;
  same_problem = st.same_problem;
  same_rule = st.same_rule;
  same_prices = st.same_prices;
  over = st.over;
  writes = grown_with old new (Came stops.Failed p P) (TurnWrites s.problem turns.LogFailed) (λ told. LogFits told s) (λ was now fit t. wrote_lines stops.Failed turns.LogFailed s p t.0 was now (omega arith) (inside t.0 t.1) t.2 (plan was fit)) b.fits g;
  fits = grown old new (Came stops.Failed p P) (λ told. LogFits told s) (λ now. is_closed now.lines ≡ false) g (λ was now fit t. (left_told stops.Failed s after p P was now left fit t).open') b.fits;
  best = grown old new (Came stops.Failed p P) (λ told. LogFits told s) (λ now. last_table now.lines ≡ after.best) g (λ was now fit t. (left_told stops.Failed s after p P was now left fit t).best) b.fits;
  best_stays = λ e. st.best;
  lemmas = grown old new (Came stops.Failed p P) (λ told. LogFits told s) (λ now. length (lemmas_of now.lines) ≡ after.lemmas) g (λ was now fit t. (left_told stops.Failed s after p P was now left fit t).lemmas) b.fits;
  does = record {
    cause = cause;
    failed = grown old new (Came stops.Failed p P) (λ told. LogFits told s) (FailsNext s.problem) g (λ was now fit t. failed_at s p t.0 was now (inside t.0 t.1) t.2 (plan was fit)) b.fits;
    part = grown_with old new (Came stops.Failed p P) (FailsPart s) (λ told. LogFits told s) (λ was now fit t. failed_part s p t.0 was now (inside t.0 t.1) t.2 (plan was fit)) b.fits g;
    stops = stops';
  };
}
stop_meets s after stops.NoMemory p P old new b st inside later cause g plan left stops' = record {
  later = later;
  same_problem = st.same_problem;
  same_rule = st.same_rule;
  same_prices = st.same_prices;
  over = st.over;
  writes = grown_with old new (Came stops.NoMemory p P) (TurnWrites s.problem turns.NoMemory) (λ told. LogFits told s) (λ was now fit t. wrote_lines stops.NoMemory turns.NoMemory s p t.0 was now (omega arith) (inside t.0 t.1) t.2 (plan was fit)) b.fits g;
  fits = grown old new (Came stops.NoMemory p P) (λ told. LogFits told s) (λ now. (now.remainder ≡ []) × (is_closed now.lines ≡ false)) g (λ was now fit t. (t.2.remainder, (left_told stops.NoMemory s after p P was now left fit t).open')) b.fits;
  best = grown old new (Came stops.NoMemory p P) (λ told. LogFits told s) (λ now. last_table now.lines ≡ after.best) g (λ was now fit t. (left_told stops.NoMemory s after p P was now left fit t).best) b.fits;
  best_stays = λ e. st.best;
  lemmas = grown old new (Came stops.NoMemory p P) (λ told. LogFits told s) (λ now. length (lemmas_of now.lines) ≡ after.lemmas) g (λ was now fit t. (left_told stops.NoMemory s after p P was now left fit t).lemmas) b.fits;
  does = record {
    part = grown_with old new (Came stops.NoMemory p P) (WritesPart s) (λ told. LogFits told s) (λ was now fit t. wrote_part stops.NoMemory s p t.0 was now (inside t.0 t.1) t.2 (plan was fit)) b.fits g;
    stops = stops';
  };
}
