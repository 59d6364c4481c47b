-- What a turn meets that analysed a conflict.
use Rattle.std.proofs.Common.{◌≡◌, ℕ, ◌+◌, ◌<◌, ◌≤◌, Bool, true, false, cond, List, [], ◌∷◌, ◌++◌, Option, length, take, refl, sym, ap, ◌∙◌, subst, arith, append-nil, append_assoc, length-append}
use Rattle.std.proofs.lemmas.List.{length-map, take_all}
use Rattle.hw_model.specs.declared.lit.Lit.{Lit}
use Rattle.hw_model.specs.Problem.{Problem}
use Rattle.hw_cert_lines.specs.declared.line.Line.{Line}
use Rattle.hw_cert_lines.specs.declared.line.Line.TheVariants as lines
use Rattle.hw_cert_lines.specs.Lines.{clause_count, last_table, is_closed}
use Rattle.hw_cert_lines.specs.Lemmas.{lemmas_of}
use Rattle.hw_cert_lines.proofs.Pushed.{last_push}
use Rattle.hw_cert_lines.proofs.Live.{lemmas_push}
use Rattle.hw_cert_laws.proofs.Numbered.{count_append}
use Rattle.hw_trail_laws.specs.declared.event.Why.{Why}
use Rattle.hw_trail_laws.specs.Trails.{reason_clause, most_events}
use Rattle.hw_cert.specs.declared.log.LogStop.{LogStop}
use Rattle.hw_cert.specs.Logs.{LogTold, LogModel, WhereTold, Grows}
use Rattle.hw_store.specs.declared.store.Stored.{Stored}
use Rattle.hw_search_laws.specs.declared.outcome.Turn.TheVariants as turns
use Rattle.hw_search_laws.specs.Searches.{SearchModel, IsSearch, FitsOpen, LiveKept, LogFits, lemmas_in}
use Rattle.hw_search_laws.specs.Laws.{lemma_lines}
use Rattle.hw_search_laws.specs.Living.{FewLiveFrom}
use Rattle.hw_search_laws.specs.Turns.{Cited, cited, with_lemma, to_level, restart_is_due, gone_back, unkept, Analysed, IsAdded, Plans, TurnStops, DoesEnd, WritesWell, TurnWrites, TurnMeets}
use Rattle.hw_cert_laws.specs.Renewing.{deletion}
use Rattle.hw_search_laws.proofs.Lines.{lemma_open}
use Rattle.hw_search_laws.proofs.Bounds.{few_numbers}
use Rattle.hw_search_laws.proofs.Citing.{Citing, Prepared, cites, prepared}
use Rattle.hw_search_laws.proofs.Told.{grown}
use Rattle.hw_search_laws.proofs.Turned.{few_for, lemma_meets, last}
use Rattle.hw_search_laws.proofs.Living.{turn_lives}
use Rattle.hw_search_ledger.specs.Handing.{TakesAll, StopCause, StopsAfter, StopsWithin}
use Rattle.hw_search_ledger.specs.Naming.{taught}
use Rattle.hw_search.specs.Turning.{TurnBegins, turn_of, halted}
use Rattle.hw_search_ledger.proofs.Handed.{grows_by, grown_with, told_by, take_front}
use Rattle.hw_search.proofs.Stopping.{Left, Planned, Stopped, left_sourced, cited_sourced, stop_meets}
use Rattle.hw_search.proofs.Answering.{Same, same_mid, mid_fits, before_stops, halts, tells}

-- the search that has gone back
abbrev pub gone : SearchModel → Why → List Lit → ℕ → List ℕ → SearchModel
gone mid why lemma back places = gone_back (with_lemma (taught mid why places).search lemma) back

-- ---- what is known where lines are told

pub record Known (s mid : SearchModel) (told : LogTold) (why : Why) (lemma : List Lit) (back : ℕ) (places : List ℕ) : Type 0 where
  pub fit : LogFits told mid
  pub citing : Citing mid told.lines places (cited mid places)
  pub prepared : Prepared mid told.lines places (reason_clause why) (taught mid why places)
  pub going : mid.over ≡ false
  pub few : mid.lemmas < 100000

pub known : (s mid : SearchModel) (told : LogTold) (why : Why) (lemma : List Lit) (back : ℕ) (places : List ℕ) → IsSearch s → s.over ≡ false → s.lemmas < 100000 → LogFits told s → Analysed s mid why lemma back places → 1 ≤ length (reason_clause why) → Known s mid told why lemma back places
known s mid told why lemma back places is going few fit a some =
    let e = same_mid s mid a.settles.implies in
    let k = a.settles.kept in
    let m = mid_fits s mid told is a.settles.implies fit in
    let g : mid.over ≡ false = e.over ∙ going in
    let f : mid.lemmas < 100000 = omega (arith, e.lemmas, few) in
    let n = few_numbers mid k g f in
    let p = few_for mid why lemma back places k a.learns in
    let c = cites mid told.lines places k m.fits m.live_kept a.learns.reasons (omega (arith, n, p)) in
    record {
      fit = m;
      citing = c;
      prepared = prepared mid told.lines places (cited mid places) why c a.settles.ends some (omega (arith, n, p));
      going = g;
      few = f;
    }

-- ---- the plan

no_clause : (ids : List ℕ) → clause_count (deletion ids) ≡ 0
no_clause [] = refl
no_clause (id ∷ ids) = refl

-- all that a turn is about to write
record Whole (s : SearchModel) (before all : List Line) : Type 0 where
  pub planned : Plans s before all
  pub well : WritesWell s.problem before all
  pub few_live : FewLiveFrom s.problem before all
  pub few : clause_count all ≤ most_events s.problem.ships s.problem.slots + 2

part_of : (s : SearchModel) (before p rest : List Line) → Whole s before (p ++ rest) → Planned s before p
part_of s before p rest w = record { rest = rest; planned = w.planned; well = w.well; few_live = w.few_live; few = w.few }

whole_lemma : (s mid : SearchModel) (told : LogTold) (why : Why) (lemma : List Lit) (back : ℕ) (places : List ℕ) → Same s mid → Known s mid told why lemma back places → Analysed s mid why lemma back places → 1 ≤ length (reason_clause why) → 1 ≤ length lemma
    → Whole s told.lines (lemma_lines (taught mid why places) lemma ++ deletion (unkept (told.lines ++ lemma_lines (taught mid why places) lemma) (gone mid why lemma back places)))
whole_lemma s mid told why lemma back places e k a some literal =
    let c = taught mid why places in
    let after = gone mid why lemma back places in
    let line = lines.Lemma lemma c.hints in
    let rest = deletion (unkept (told.lines ++ lemma_lines c lemma) after) in
    let m = lemma_meets mid told.lines why lemma back places a.settles.kept k.going k.few k.fit.fits k.fit.live_kept a.settles.ends some a.learns literal in
    let live = (turn_lives mid told.lines a.settles.kept k.going k.few k.fit.fits k.fit.live_kept).lemma why lemma back places a.settles.ends some a.learns literal after refl in
    record {
      planned = Plans.a_lemma mid why lemma back places a some rest (λ h. ap (λ xs. deletion (unkept xs after)) (sym (append_assoc told.lines c.lines (line ∷ [])))) (λ h. absurd (omega (arith, ap length h, literal))) (append_assoc c.lines (line ∷ []) rest);
      well = subst (λ f. WritesWell f told.lines (lemma_lines c lemma ++ rest)) e.problem m.well;
      few_live = subst (λ f. FewLiveFrom f told.lines (lemma_lines c lemma ++ rest)) e.problem live;
      few = subst (λ (f : Problem). clause_count (lemma_lines c lemma ++ rest) ≤ most_events f.ships f.slots + 2) e.problem (omega (arith, m.few, count_append (lemma_lines c lemma) rest, no_clause (unkept (told.lines ++ lemma_lines c lemma) after)));
    }

plan_end : (s mid : SearchModel) (told : LogTold) (why : Why) (back : ℕ) (places : List ℕ) → Same s mid → Known s mid told why [] back places → Analysed s mid why [] back places → 1 ≤ length (reason_clause why) → Planned s told.lines (lemma_lines (taught mid why places) [])
plan_end s mid told why back places e k a some =
    let c = taught mid why places in
    let all = lemma_lines c [] in
    let m = last mid told.lines why back places a.settles.kept k.going k.few k.fit.fits k.fit.live_kept a.settles.ends some a.learns in
    let live = (turn_lives mid told.lines a.settles.kept k.going k.few k.fit.fits k.fit.live_kept).last why back places a.learns in
    record {
      rest = [];
      planned = Plans.a_lemma mid why [] back places a some [] (λ h. absurd (omega (arith, h))) (λ h. refl) (append_assoc c.lines (lines.Lemma [] c.hints ∷ []) []);
      well = subst (λ xs. WritesWell s.problem told.lines xs) (sym (append-nil all)) (subst (λ f. WritesWell f told.lines all) e.problem m.well);
      few_live = subst (λ xs. FewLiveFrom s.problem told.lines xs) (sym (append-nil all)) (subst (λ f. FewLiveFrom f told.lines all) e.problem live);
      few = subst (λ xs. clause_count xs ≤ most_events s.problem.ships s.problem.slots + 2) (sym (append-nil all)) (subst (λ (f : Problem). clause_count all ≤ most_events f.ships f.slots + 2) e.problem m.few);
    }

plan : (s mid : SearchModel) (told : LogTold) (why : Why) (lemma : List Lit) (back : ℕ) (places : List ℕ) → Same s mid → Known s mid told why lemma back places → Analysed s mid why lemma back places → 1 ≤ length (reason_clause why) → Planned s told.lines (lemma_lines (taught mid why places) lemma)
plan s mid told why [] back places e k a some = plan_end s mid told why back places e k a some
plan s mid told why (l ∷ lemma) back places e k a some = part_of s told.lines (lemma_lines (taught mid why places) (l ∷ lemma)) (deletion (unkept (told.lines ++ lemma_lines (taught mid why places) (l ∷ lemma)) (gone mid why (l ∷ lemma) back places))) (whole_lemma s mid told why (l ∷ lemma) back places e k a some (omega arith))

-- ---- a stop before the lemma is written

pub lemma_stops : (s mid : SearchModel) (why : Why) (lemma : List Lit) (back : ℕ) (places : List ℕ) (ws : List (Option ℕ)) (n : ℕ) (stop : LogStop) (old new : LogModel) → TurnBegins s old → Analysed s mid why lemma back places → 1 ≤ length (reason_clause why) → StopsWithin stop (lemma_lines (taught mid why places) lemma) (length (taught mid why places).lines) old new → TurnMeets s old (turn_of stop) (halted mid ws n) new
lemma_stops s mid why lemma back places ws n stop old new b a some t =
    let e = same_mid s mid a.settles.implies in
    let c = taught mid why places in
    let p = lemma_lines c lemma in
    let len = length-append c.lines (lines.Lemma lemma c.hints ∷ []) in
    stop_meets s (halted mid ws n) stop p (λ count. count ≤ length c.lines) old new b (halts s mid ws n a.settles.implies) (λ count le. omega (arith, le, len)) t.later t.cause t.told
    (λ was fit. plan s mid was why lemma back places e (known s mid was why lemma back places b.kept b.going b.few fit a some) a some)
    (λ told count fit le. subst (λ xs. Left (halted mid ws n) (told.lines ++ xs)) (sym (take_front c.lines (lines.Lemma lemma c.hints ∷ []) count le)) (left_sourced s (halted mid ws n) told c.lines count b.kept b.going fit (cited_sourced mid places why) (known s mid told why lemma back places b.kept b.going b.few fit a some).prepared.fit.none_empty e.best e.lemmas))
    (before_stops (turn_of stop) s mid ws n old new a.settles.implies a.settles.kept)

-- ---- a lemma without literals

-- the search over after its last lemma
abbrev pub ended : SearchModel → List (Option ℕ) → ℕ → ℕ → SearchModel
ended mid ws n lemmas = record mid { written = ws; clause_lines = n; lemmas = lemmas; over = true }

pub last_meets : (s mid : SearchModel) (why : Why) (back : ℕ) (places : List ℕ) (ws : List (Option ℕ)) (n : ℕ) (old new : LogModel) → TurnBegins s old → Analysed s mid why [] back places → 1 ≤ length (reason_clause why) → TakesAll (lemma_lines (taught mid why places) []) old new → TurnMeets s old turns.Ended (ended mid ws n (mid.lemmas + 1)) new
last_meets s mid why back places ws n old new b a some t =
    let e = same_mid s mid a.settles.implies in
    let c = taught mid why places in
    let line = lines.Lemma [] c.hints in
    let all = lemma_lines c [] in
    let R : LogTold → LogTold → Type 0 = λ was now. (now.lines ≡ was.lines ++ all) × (now.remainder ≡ []) in
    let K = λ (was : LogTold) (fit : LogFits was s). known s mid was why [] back places b.kept b.going b.few fit a some in
    let M = λ (was : LogTold) (fit : LogFits was s). last mid was.lines why back places a.settles.kept (K was fit).going (K was fit).few (K was fit).fit.fits (K was fit).fit.live_kept a.settles.ends some a.learns in
    let same : (before : List Line) → before ++ all ≡ (before ++ c.lines) ++ line ∷ [] = λ before. sym (append_assoc before c.lines (line ∷ [])) in
    let best' = λ (was : LogTold) (fit : LogFits was s). last_push (was.lines ++ c.lines) line ∙ (K was fit).prepared.fit.best ∙ ap (λ (x : SearchModel). x.best) (K was fit).prepared.same in
    let lemmas' = λ (was : LogTold) (fit : LogFits was s). lemmas_push (was.lines ++ c.lines) line ∙ ap (λ xs. xs ++ [] ∷ []) ((K was fit).prepared.fit.lemmas ∙ ap lemmas_in (K was fit).prepared.same) in
    let count : length (lemmas_in mid ++ [] ∷ []) ≡ mid.lemmas + 1 = omega (arith, length-append (lemmas_in mid) ([] ∷ []), length-map mid.stored (λ (one : Stored). one.clause), a.settles.kept.counted (e.over ∙ b.going)) in
    record {
      later = omega (arith, t.faults);
      same_problem = e.problem;
      same_rule = e.branching;
      same_prices = e.prices;
      over = refl;
      writes = grown_with old new R (TurnWrites s.problem turns.Ended) (λ told. LogFits told s) (λ was now fit h. record {
        more = all;
        lines = h.0;
        well = subst (λ f. WritesWell f was.lines all) e.problem (M was fit).well;
        few = subst (λ (f : Problem). clause_count all ≤ most_events f.ships f.slots + 2) e.problem (M was fit).few;
        few_live = subst (λ f. FewLiveFrom f was.lines all) e.problem ((turn_lives mid was.lines a.settles.kept (K was fit).going (K was fit).few (K was fit).fit.fits (K was fit).fit.live_kept).last why back places a.learns);
      }) b.fits t.told;
      fits = grown old new R (λ told. LogFits told s) (λ now. (now.remainder ≡ []) × (is_closed now.lines ≡ true)) t.told (λ was now fit h. (h.1, ap is_closed h.0 ∙ (M was fit).closed)) b.fits;
      best = grown old new R (λ told. LogFits told s) (λ now. last_table now.lines ≡ mid.best) t.told (λ was now fit h. ap last_table (h.0 ∙ same was.lines) ∙ best' was fit) b.fits;
      best_stays = λ f. e.best;
      lemmas = grown old new R (λ told. LogFits told s) (λ now. length (lemmas_of now.lines) ≡ mid.lemmas + 1) t.told (λ was now fit h. ap (λ xs. length (lemmas_of xs)) (h.0 ∙ same was.lines) ∙ ap length (lemmas' was fit) ∙ count) b.fits;
      does = DoesEnd.at_lemma (record {
        mid = mid;
        why = why;
        back = back;
        places = places;
        analysed = a;
        some_literal = some;
        stays = record { trail = refl; stored = e.stored };
        lemmas = omega (arith, e.lemmas);
        written = grows_by old new R (λ was now. now.lines ≡ was.lines ++ c.lines ++ line ∷ []) (λ was now h. h.0 ∙ same was.lines) t.told;
      });
    }

-- ---- a lemma with literals

-- what going back leaves as it was
pub record SameGone (u g : SearchModel) : Type 0 where
  pub problem : g.problem ≡ u.problem
  pub branching : g.branching ≡ u.branching
  pub stored : g.stored ≡ u.stored
  pub best : g.best ≡ u.best
  pub prices : g.prices ≡ u.prices
  pub clause_lines : g.clause_lines ≡ u.clause_lines
  pub lemmas : g.lemmas ≡ u.lemmas
  pub over : g.over ≡ u.over

pub same_gone : (u : SearchModel) (back : ℕ) → SameGone u (gone_back u back)
same_gone u back = by (restart_is_due u)
  where
    by : (b : Bool) → SameGone u (cond b (record (to_level u 0) { restarts = u.restarts + 1; since = 0 }) (record (to_level u back) { since = u.since + 1 }))
    by true = record { problem = refl; branching = refl; stored = refl; best = refl; prices = refl; clause_lines = refl; lemmas = refl; over = refl }
    by false = record { problem = refl; branching = refl; stored = refl; best = refl; prices = refl; clause_lines = refl; lemmas = refl; over = refl }

-- the deletion that comes after the lemma, where lines are told
abbrev pub Deletes : SearchModel → SearchModel → Why → List Lit → ℕ → List ℕ → List ℕ → LogTold → Type 0
Deletes s mid why lemma back places ids was = ids ≡ unkept (was.lines ++ lemma_lines (taught mid why places) lemma) (gone mid why lemma back places)

pub lemma_turned : (s mid : SearchModel) (why : Why) (lemma : List Lit) (back : ℕ) (places ids : List ℕ) (old new : LogModel) → TurnBegins s old → Analysed s mid why lemma back places → 1 ≤ length (reason_clause why) → 1 ≤ length lemma → (taught mid why places).search ≡ record mid { written = (taught mid why places).search.written; clause_lines = (taught mid why places).search.clause_lines }
    → IsSearch (gone mid why lemma back places) → ((was : LogTold) → LogFits was s → Deletes s mid why lemma back places ids was) → TakesAll (lemma_lines (taught mid why places) lemma ++ deletion ids) old new → TurnMeets s old turns.Lemma (gone mid why lemma back places) new
lemma_turned s mid why lemma back places ids old new b a some literal same is d t =
    let e = same_mid s mid a.settles.implies in
    let c = taught mid why places in
    let after = gone mid why lemma back places in
    let g = same_gone (with_lemma c.search lemma) back in
    let p = lemma_lines c lemma in
    let R : LogTold → LogTold → Type 0 = λ was now. (now.lines ≡ was.lines ++ (p ++ deletion ids)) × (now.remainder ≡ []) in
    let K = λ (was : LogTold) (fit : LogFits was s). known s mid was why lemma back places b.kept b.going b.few fit a some in
    let M = λ (was : LogTold) (fit : LogFits was s). lemma_meets mid was.lines why lemma back places a.settles.kept (K was fit).going (K was fit).few (K was fit).fit.fits (K was fit).fit.live_kept a.settles.ends some a.learns literal in
    let over : after.over ≡ false = g.over ∙ ap (λ (x : SearchModel). x.over) same ∙ e.over ∙ b.going in
    let count : length after.stored ≡ after.lemmas = sym (is.counted over) in
    let rest : (was : LogTold) → LogFits was s → deletion ids ≡ deletion (unkept (was.lines ++ p) after) = λ was fit. ap deletion (d was fit) in
    let fits : WhereTold new (λ told. LogFits told after) = grown old new R (λ told. LogFits told s) (λ told. LogFits told after) t.told (λ was now fit h.
    let q : now.lines ≡ (was.lines ++ p) ++ deletion (unkept (was.lines ++ p) after) = h.0 ∙ ap (λ xs. was.lines ++ (p ++ xs)) (rest was fit) ∙ sym (append_assoc was.lines p (deletion (unkept (was.lines ++ p) after))) in
    record { no_remainder = h.1; fits = subst (λ xs. FitsOpen xs after) (sym q) (M was fit).fits; live_kept = subst (λ xs. LiveKept xs after) (sym q) (M was fit).kept }) b.fits in
    record {
      later = omega (arith, t.faults);
      same_problem = g.problem ∙ ap (λ (x : SearchModel). x.problem) same ∙ e.problem;
      same_rule = g.branching ∙ ap (λ (x : SearchModel). x.branching) same ∙ e.branching;
      same_prices = g.prices ∙ ap (λ (x : SearchModel). x.prices) same ∙ e.prices;
      over = over;
      writes = grown_with old new R (TurnWrites s.problem turns.Lemma) (λ told. LogFits told s) (λ was now fit h.
          let w = whole_lemma s mid was why lemma back places e (K was fit) a some literal in
          record {
            more = p ++ deletion (unkept (was.lines ++ p) after);
            lines = h.0 ∙ ap (λ xs. was.lines ++ (p ++ xs)) (rest was fit);
            well = w.well;
            few = w.few;
            few_live = w.few_live;
          }) b.fits t.told;
      fits = fits;
      best = told_by new (λ told. LogFits told after) (λ told. last_table told.lines ≡ after.best) (λ told fit. (tells after told count fit).best) fits;
      best_stays = λ f. absurd cc;
      lemmas = told_by new (λ told. LogFits told after) (λ told. length (lemmas_of told.lines) ≡ after.lemmas) (λ told fit. (tells after told count fit).lemmas) fits;
      does = record {
        mid = mid;
        why = why;
        lemma = lemma;
        back = back;
        places = places;
        analysed = a;
        some_literal = literal;
        search = refl;
        written = grown_with old new R (λ was now. now.lines ≡ (was.lines ++ c.lines ++ lines.Lemma lemma c.hints ∷ []) ++ deletion (unkept (was.lines ++ c.lines ++ lines.Lemma lemma c.hints ∷ []) after)) (λ told. LogFits told s)
            (λ was now fit h. subst (λ xs. now.lines ≡ xs ++ deletion (unkept xs after)) (sym (append_assoc was.lines c.lines (lines.Lemma lemma c.hints ∷ []))) (h.0 ∙ ap (λ xs. was.lines ++ (p ++ xs)) (rest was fit) ∙ sym (append_assoc was.lines p (deletion (unkept (was.lines ++ p) after))))) b.fits t.told;
      };
    }

-- ---- a stop past the lemma

-- the search over after it has gone back
abbrev pub past : SearchModel → List Stored → SearchModel
past g stored = record g { stored = stored; over = true }

abbrev Just : ℕ → ℕ → Type 0
Just n count = count ≡ n

past_left : (s mid : SearchModel) (told : LogTold) (why : Why) (lemma : List Lit) (back : ℕ) (places : List ℕ) (stored : List Stored) → IsSearch s → s.over ≡ false → Known s mid told why lemma back places → Analysed s mid why lemma back places → 1 ≤ length lemma → Left (past (gone mid why lemma back places) stored) (told.lines ++ lemma_lines (taught mid why places) lemma)
past_left s mid told why lemma back places stored is going k a literal =
    let e = same_mid s mid a.settles.implies in
    let c = taught mid why places in
    let u = with_lemma c.search lemma in
    let g = same_gone u back in
    let open' : FitsOpen (told.lines ++ lemma_lines c lemma) u = subst (λ xs. FitsOpen xs u) (append_assoc told.lines c.lines (lines.Lemma lemma c.hints ∷ [])) (lemma_open c.search (told.lines ++ c.lines) lemma c.hints k.prepared.fit literal) in
    let same = k.prepared.same in
    let count : length u.stored ≡ u.lemmas = omega (arith, length-append c.search.stored (record { number = c.search.clause_lines + 1; clause = lemma } ∷ []), ap (λ (x : SearchModel). length x.stored) same, ap (λ (x : SearchModel). x.lemmas) same, a.settles.kept.counted k.going) in
    record {
      open' = open'.none_empty;
      best = open'.best ∙ sym g.best;
      lemmas = ap length open'.lemmas ∙ length-map u.stored (λ (one : Stored). one.clause) ∙ count ∙ sym g.lemmas;
    }

past_written : (c : Cited) (lemma : List Lit) (more : List Line) (stop : LogStop) (was now : LogTold) (count : ℕ) → count ≡ length (lemma_lines c lemma) → StopsAfter stop (lemma_lines c lemma ++ more) count was now → now.lines ≡ was.lines ++ lemma_lines c lemma
past_written c lemma more stop was now count e t = t.lines ∙ ap (λ xs. was.lines ++ xs) (ap (λ k. take k (lemma_lines c lemma ++ more)) e ∙ take_front (lemma_lines c lemma) more (length (lemma_lines c lemma)) (omega arith) ∙ take_all (length (lemma_lines c lemma)) (lemma_lines c lemma) (omega arith))

-- where the lines after the lemma begin the deletion
pub past_meets : (s mid : SearchModel) (why : Why) (lemma : List Lit) (back : ℕ) (places : List ℕ) (stored : List Stored) (more : List Line) (stop : LogStop) (old new : LogModel) → TurnBegins s old → Analysed s mid why lemma back places → 1 ≤ length (reason_clause why) → 1 ≤ length lemma
    → (taught mid why places).search ≡ record mid { written = (taught mid why places).search.written; clause_lines = (taught mid why places).search.clause_lines }
    → IsAdded (turn_of stop) s (gone mid why lemma back places) (past (gone mid why lemma back places) stored)
    → ((was : LogTold) → LogFits was s → (rest : List Line) × (more ++ rest ≡ deletion (unkept (was.lines ++ lemma_lines (taught mid why places) lemma) (gone mid why lemma back places))))
    → old.faults ≤ new.faults → StopCause stop old new → Grows old new (λ was now. (count : ℕ) × (count ≡ length (lemma_lines (taught mid why places) lemma)) × StopsAfter stop (lemma_lines (taught mid why places) lemma ++ more) count was now)
    → TurnMeets s old (turn_of stop) (past (gone mid why lemma back places) stored) new
past_meets s mid why lemma back places stored more stop old new b a some literal same added remainder later cause t =
    let e = same_mid s mid a.settles.implies in
    let c = taught mid why places in
    let g = same_gone (with_lemma c.search lemma) back in
    let p = lemma_lines c lemma in
    let after = past (gone mid why lemma back places) stored in
    let K = λ (was : LogTold) (fit : LogFits was s). known s mid was why lemma back places b.kept b.going b.few fit a some in
    let st : Stopped s after = record {
      same_problem = g.problem ∙ ap (λ (x : SearchModel). x.problem) same ∙ e.problem;
      same_rule = g.branching ∙ ap (λ (x : SearchModel). x.branching) same ∙ e.branching;
      same_prices = g.prices ∙ ap (λ (x : SearchModel). x.prices) same ∙ e.prices;
      over = refl;
      best = g.best ∙ ap (λ (x : SearchModel). x.best) same ∙ e.best;
    } in
    stop_meets s after stop (p ++ more) (Just (length p)) old new b st (λ count z. omega (arith, z, length-append p more)) later cause t
    (λ was fit.
    let w = whole_lemma s mid was why lemma back places e (K was fit) a some literal in
    let r = remainder was fit in
    part_of s was.lines (p ++ more) r.0 (subst (Whole s was.lines) (ap (λ xs. p ++ xs) (sym r.1) ∙ sym (append_assoc p more r.0)) w))
    (λ told count fit z. subst (λ xs. Left after (told.lines ++ xs)) (sym (ap (λ k. take k (p ++ more)) z ∙ take_front p more (length p) (omega arith) ∙ take_all (length p) p (omega arith))) (past_left s mid told why lemma back places stored b.kept b.going (K told fit) a literal))
    (TurnStops.past_lemma (record {
      mid = mid;
      why = why;
      lemma = lemma;
      back = back;
      places = places;
      analysed = a;
      some_literal = literal;
      search = refl;
      added = added;
      written = grows_by old new (λ was now. (count : ℕ) × (count ≡ length p) × StopsAfter stop (p ++ more) count was now) (λ was now. now.lines ≡ was.lines ++ c.lines ++ lines.Lemma lemma c.hints ∷ []) (λ was now h. past_written c lemma more stop was now h.0 h.1 h.2 ∙ sym (append_assoc was.lines c.lines (lines.Lemma lemma c.hints ∷ []))) t;
    }))
