-- A turn that learnt from a conflict, in the words of a call.
use Rattle.std.proofs.Common.{◌≡◌, ◌⊎◌, ℕ, ◌+◌, ◌≤◌, Bool, true, false, cond, List, [], ◌∷◌, ◌++◌, Option, length, take, sym, ap, ◌∙◌, subst, arith, inl, inr, append-nil, append_assoc}
use Rattle.std.specs.Prelude.{Contains}
use Rattle.hw_model.specs.declared.lit.Lit.{Lit}
use Rattle.hw_cert_lines.specs.declared.line.Line.{Line}
use Rattle.hw_trail_laws.specs.declared.event.Why.{Why}
use Rattle.hw_trail_laws.specs.Trails.{TrailModel, reason_clause, back_to}
use Rattle.hw_cert.specs.declared.log.LogStop.{LogStop}
use Rattle.hw_cert.specs.declared.log.LogStop.TheVariants as stops
use Rattle.hw_cert.specs.Logs.{LogTold, LogModel, Grows}
use Rattle.hw_store.specs.declared.store.Stored.{Stored}
use Rattle.hw_search_laws.specs.declared.outcome.Settled.TheVariants.{Conflict}
use Rattle.hw_search_laws.specs.declared.outcome.Turn.TheVariants as turns
use Rattle.hw_search_laws.specs.Searches.{SearchModel, IsSearch, LogFits}
use Rattle.hw_search_laws.specs.Settling.{Settles}
use Rattle.hw_search_laws.specs.Laws.{lemma_lines}
use Rattle.hw_search_laws.specs.Turns.{cited, with_lemma, to_level, gone_back, unkept, Analysed, IsAdded, TurnMeets}
use Rattle.hw_cert_laws.specs.Renewing.{deletion}
use Rattle.hw_search_laws.proofs.Stops.{numbers_kept, past as gone_keeps}
use Rattle.hw_search_ledger.specs.Handing.{TakesAll, StopRemainder, StopsAfter, StopsWithin}
use Rattle.hw_search_ledger.specs.Naming.{own_number, taught, Taught}
use Rattle.hw_search_ledger.specs.Dropped.{line_numbers_kept, IsLeftOver}
use Rattle.hw_search_ledger.specs.GoingBack.{Adds}
use Rattle.hw_search_sources.specs.Restarts.{due, NextLevel}
use Rattle.hw_search.specs.Turning.{TurnBegins, Teaches, turn_of}
use Rattle.hw_search_ledger.proofs.Handed.{grows_on, all_on, take_past, get_past, cause_on}
use Rattle.hw_search.proofs.Teaching.{gone, past, Known, known, lemma_turned, past_meets}
use Rattle.hw_search.proofs.Unkept.{DropsRest, drops_unkept}

-- ---- what was analysed

pub analysed : (s mid : SearchModel) (why : Why) (lemma : List Lit) (back : ℕ) (places : List ℕ) → Settles s mid (Conflict why) → Teaches mid why lemma back places → Analysed s mid why lemma back places
analysed s mid why lemma back places settles t = record { settles = settles; learns = t.learns }

abbrev pub Same : SearchModel → Why → List ℕ → Type 0
Same mid why places = (taught mid why places).search ≡ record mid { written = (taught mid why places).search.written; clause_lines = (taught mid why places).search.clause_lines }

pub same_taught : (mid : SearchModel) (why : Why) (places : List ℕ) → Same mid why places
same_taught mid why places = (numbers_kept mid why places).same

-- ---- the search that has gone back

gone_by : (u : SearchModel) (back level restarts since : ℕ) (b : Bool) → level ≡ cond b 0 back → restarts ≡ cond b (u.restarts + 1) u.restarts → since ≡ cond b 0 (u.since + 1)
    → cond b (record (to_level u 0) { restarts = u.restarts + 1; since = 0 }) (record (to_level u back) { since = u.since + 1 }) ≡ record (to_level u level) { restarts = restarts; since = since }
gone_by u back level restarts since true l r s = ap (λ k. record (to_level u k) { restarts = u.restarts + 1; since = 0 }) (sym l) ∙ ap (λ k. record (to_level u level) { restarts = k; since = 0 }) (sym r) ∙ ap (λ k. record (to_level u level) { restarts = restarts; since = k }) (sym s)
gone_by u back level restarts since false l r s = ap (λ k. record (to_level u k) { since = u.since + 1 }) (sym l) ∙ ap (λ k. record (to_level u level) { restarts = k; since = u.since + 1 }) (sym r) ∙ ap (λ k. record (to_level u level) { restarts = restarts; since = k }) (sym s)

gone_is : (u : SearchModel) (back level restarts since : ℕ) → NextLevel u.restarts u.since back restarts since level → gone_back u back ≡ record (to_level u level) { restarts = restarts; since = since }
gone_is u back level restarts since n = gone_by u back level restarts since (due u.restarts u.since) n.to n.restarted n.counted

-- what the fields hold then
abbrev pub went : SearchModel → TrailModel → List Stored → List (Option ℕ) → ℕ → ℕ → ℕ → SearchModel
went mid trail stored written lines restarts since = record mid { trail = trail; stored = stored; written = written; clause_lines = lines; lemmas = mid.lemmas + 1; restarts = restarts; since = since }

pub record WentBack (mid : SearchModel) (why : Why) (lemma : List Lit) (back : ℕ) (places : List ℕ) (trail : TrailModel) (written ws : List (Option ℕ)) (lines restarts since level : ℕ) : Type 0 where
  pub numbers : Taught (taught mid why places) ws lines
  pub next : NextLevel mid.restarts mid.since back restarts since level
  pub at : trail ≡ back_to mid.trail level
  pub taken : written ≡ take (length (back_to mid.trail level).events) ws

gone_code : (mid : SearchModel) (why : Why) (lemma : List Lit) (back : ℕ) (places : List ℕ) (trail : TrailModel) (written ws : List (Option ℕ)) (lines restarts since level : ℕ) → WentBack mid why lemma back places trail written ws lines restarts since level
    → gone mid why lemma back places ≡ went mid trail (mid.stored ++ record { number = lines; clause = lemma } ∷ []) written lines restarts since
gone_code mid why lemma back places trail written ws lines restarts since level w =
    let c = taught mid why places in
    let u : SearchModel = record mid { written = ws; clause_lines = lines; stored = mid.stored ++ record { number = lines; clause = lemma } ∷ []; lemmas = mid.lemmas + 1 } in
    let e : with_lemma c.search lemma ≡ u =
    ap (λ (x : SearchModel). with_lemma x lemma) (same_taught mid why places)
    ∙ ap (λ xs. record mid { written = xs; clause_lines = c.search.clause_lines + 1; stored = mid.stored ++ record { number = c.search.clause_lines + 1; clause = lemma } ∷ []; lemmas = mid.lemmas + 1 }) (sym w.numbers.same_written)
    ∙ ap (λ n. record mid { written = ws; clause_lines = n; stored = mid.stored ++ record { number = n; clause = lemma } ∷ []; lemmas = mid.lemmas + 1 }) (sym w.numbers.same_lines) in
    ap (λ (x : SearchModel). gone_back x back) e ∙ gone_is u back level restarts since w.next
    ∙ ap (λ t. record u { trail = t; written = take (length (back_to mid.trail level).events) ws; restarts = restarts; since = since }) (sym w.at)
    ∙ ap (λ xs. record u { trail = trail; written = xs; restarts = restarts; since = since }) (sym w.taken)

-- ---- what it keeps

pub went_search : (mid : SearchModel) (why : Why) (lemma : List Lit) (back : ℕ) (places : List ℕ) (trail : TrailModel) (stored : List Stored) (written ws : List (Option ℕ)) (lines restarts since level : ℕ) → Teaches mid why lemma back places → 1 ≤ length lemma → WentBack mid why lemma back places trail written ws lines restarts since level
    → stored ≡ mid.stored ++ record { number = lines; clause = lemma } ∷ [] → IsSearch (went mid trail stored written lines restarts since)
went_search mid why lemma back places trail stored written ws lines restarts since level t literal w e =
    let k = gone_keeps mid t.kept why lemma back places t.going t.conflict t.learns literal in
    subst (λ xs. IsSearch (went mid trail xs written lines restarts since)) (sym e) (subst IsSearch (gone_code mid why lemma back places trail written ws lines restarts since level w) k.kept)

pub past_search : (mid : SearchModel) (why : Why) (lemma : List Lit) (back : ℕ) (places : List ℕ) (trail : TrailModel) (stored : List Stored) (written ws : List (Option ℕ)) (lines restarts since level : ℕ) → Teaches mid why lemma back places → 1 ≤ length lemma → WentBack mid why lemma back places trail written ws lines restarts since level
    → (stored ≡ mid.stored ++ record { number = lines; clause = lemma } ∷ []) ⊎ (stored ≡ mid.stored) → IsSearch (record (went mid trail stored written lines restarts since) { over = true })
past_search mid why lemma back places trail stored written ws lines restarts since level t literal w h =
    let k = gone_keeps mid t.kept why lemma back places t.going t.conflict t.learns literal in
    let g = gone_code mid why lemma back places trail written ws lines restarts since level w in
    elim h [
      | inl e ↦ subst (λ xs. IsSearch (record (went mid trail xs written lines restarts since) { over = true })) (sym e) (subst (λ (x : SearchModel). IsSearch (record x { over = true })) g k.over)
      | inr e ↦ subst (λ xs. IsSearch (record (went mid trail xs written lines restarts since) { over = true })) (sym e) (subst (λ (x : SearchModel). IsSearch (record x { stored = mid.stored; over = true })) g k.lacks)
    ]

added_either : (stop : LogStop) (old : List Stored) (one : Stored) (new : List Stored) → Adds stop old one new → (new ≡ old ++ one ∷ []) ⊎ (new ≡ old)
added_either stops.Failed old one new h = inl h
added_either stops.NoMemory old one new h = h

pub stopped_past : (mid : SearchModel) (why : Why) (lemma : List Lit) (back : ℕ) (places : List ℕ) (trail : TrailModel) (stored : List Stored) (written ws : List (Option ℕ)) (lines restarts since level : ℕ) (stop : LogStop) → Teaches mid why lemma back places → 1 ≤ length lemma → WentBack mid why lemma back places trail written ws lines restarts since level
    → Adds stop mid.stored (record { number = lines; clause = lemma }) stored → IsSearch (record (went mid trail stored written lines restarts since) { over = true })
stopped_past mid why lemma back places trail stored written ws lines restarts since level stop t literal w h = past_search mid why lemma back places trail stored written ws lines restarts since level t literal w (added_either stop mid.stored (record { number = lines; clause = lemma }) stored h)

-- ---- the numbers that are deleted

drops_left : (mid : SearchModel) (why : Why) (lemma : List Lit) (back : ℕ) (places : List ℕ) (trail : TrailModel) (written ws : List (Option ℕ)) (lines restarts since level : ℕ) (own : Option ℕ) (ids : List ℕ) (s : SearchModel) (was : LogTold) → WentBack mid why lemma back places trail written ws lines restarts since level → own ≡ own_number why ((cited mid places).search.clause_lines + 1) → Known s mid was why lemma back places
    → IsLeftOver (mid.stored ++ record { number = lines; clause = lemma } ∷ []) ws (length (back_to mid.trail level).events) own ids → ids ≡ unkept (was.lines ++ lemma_lines (taught mid why places) lemma) (gone mid why lemma back places)
drops_left mid why lemma back places trail written ws lines restarts since level own ids s was w o k left =
    let c = taught mid why places in
    let keep = length (back_to mid.trail level).events in
    let stored = mid.stored ++ record { number = lines; clause = lemma } ∷ [] in
    let u = went mid trail stored written lines restarts since in
    let g = gone_code mid why lemma back places trail written ws lines restarts since level w in
    let same = same_taught mid why places in
    let st : u.stored ≡ c.search.stored ++ record { number = c.search.clause_lines + 1; clause = lemma } ∷ [] = ap (λ xs. xs ++ record { number = lines; clause = lemma } ∷ []) (sym (ap (λ (x : SearchModel). x.stored) same)) ∙ ap (λ n. c.search.stored ++ record { number = n; clause = lemma } ∷ []) w.numbers.same_lines in
    let wr : u.written ≡ take keep c.search.written = w.taken ∙ ap (take keep) w.numbers.same_written in
    let d : DropsRest u ws keep own ids = record {
      ascends = left.ascends;
      holds = left.holds;
      apart = λ n h m. left.apart n h (subst (λ xs. Contains (line_numbers_kept stored xs) n) w.taken m);
      all = λ n h m. left.all n h (λ q. m (subst (λ xs. Contains (line_numbers_kept stored xs) n) (sym w.taken) q));
    } in
    let d' = subst (λ x. DropsRest u c.search.written keep x ids) o (subst (λ xs. DropsRest u xs keep own ids) w.numbers.same_written d) in
    drops_unkept mid u was.lines places (cited mid places) why (reason_clause why) lemma keep ids k.citing k.prepared st wr d' ∙ ap (unkept (was.lines ++ lemma_lines c lemma)) (sym g)

-- ---- the answer

pub went_meets : (s mid : SearchModel) (why : Why) (lemma : List Lit) (back : ℕ) (places : List ℕ) (trail : TrailModel) (stored : List Stored) (written ws : List (Option ℕ)) (lines restarts since level : ℕ) (own : Option ℕ) (ids : List ℕ) (old then new : LogModel)
    → TurnBegins s old → Settles s mid (Conflict why) → Teaches mid why lemma back places → 1 ≤ length lemma → WentBack mid why lemma back places trail written ws lines restarts since level → own ≡ own_number why ((cited mid places).search.clause_lines + 1) → stored ≡ mid.stored ++ record { number = lines; clause = lemma } ∷ []
    → TakesAll (lemma_lines (taught mid why places) lemma) old then → IsLeftOver (mid.stored ++ record { number = lines; clause = lemma } ∷ []) ws (length (back_to mid.trail level).events) own ids → TakesAll (deletion ids) then new
    → TurnMeets s old turns.Lemma (went mid trail stored written lines restarts since) new
went_meets s mid why lemma back places trail stored written ws lines restarts since level own ids old then new b settles t literal w o e a left d =
    let g = gone_code mid why lemma back places trail written ws lines restarts since level w in
    let an = analysed s mid why lemma back places settles t in
    let k = gone_keeps mid t.kept why lemma back places t.going t.conflict t.learns literal in
    subst (λ xs. TurnMeets s old turns.Lemma (went mid trail xs written lines restarts since) new) (sym e)
    (subst (λ x. TurnMeets s old turns.Lemma x new) g
    (lemma_turned s mid why lemma back places ids old new b an t.some literal (same_taught mid why places) k.kept
    (λ was fit. drops_left mid why lemma back places trail written ws lines restarts since level own ids s was w o (known s mid was why lemma back places b.kept b.going b.few fit an t.some) left)
    (all_on (lemma_lines (taught mid why places) lemma) (deletion ids) old then new a d)))

stop_here : (stop : LogStop) (p more : List Line) (old then new : LogModel) → TakesAll p old then → StopsWithin stop more 0 then new → Grows old new (λ was now. (count : ℕ) × (count ≡ length p) × StopsAfter stop (p ++ more) count was now)
stop_here stop p more old then new a b = grows_on old then new (λ was now. (now.lines ≡ was.lines ++ p) × (now.remainder ≡ [])) (λ was now. (count : ℕ) × (count ≤ 0) × StopsAfter stop more count was now) (λ was now. (count : ℕ) × (count ≡ length p) × StopsAfter stop (p ++ more) count was now)
    (λ was mid now h k. (
      length p + k.0,
      omega (arith, k.1),
      record {
        lines = k.2.lines ∙ ap (λ xs. xs ++ take k.0 more) h.0 ∙ append_assoc was.lines p (take k.0 more) ∙ ap (λ xs. was.lines ++ xs) (sym (take_past p more k.0));
        remainder = subst (λ o. StopRemainder stop o now.remainder) (sym (get_past p more k.0)) k.2.remainder;
      },
    )) a.told b.told

is_added : (stop : LogStop) (s mid : SearchModel) (why : Why) (lemma : List Lit) (back : ℕ) (places : List ℕ) (lines : ℕ) (stored : List Stored) → mid.stored ≡ s.stored → (gone mid why lemma back places).stored ≡ mid.stored ++ record { number = lines; clause = lemma } ∷ [] → Adds stop mid.stored (record { number = lines; clause = lemma }) stored → IsAdded (turn_of stop) s (gone mid why lemma back places) (past (gone mid why lemma back places) stored)
is_added stops.Failed s mid why lemma back places lines stored e g h = h ∙ sym g
is_added stops.NoMemory s mid why lemma back places lines stored e g h = elim h [ inl a ↦ inl (a ∙ sym g) | inr b ↦ inr (b ∙ e) ]

pub stop_meets_past : (s mid : SearchModel) (why : Why) (lemma : List Lit) (back : ℕ) (places : List ℕ) (trail : TrailModel) (stored : List Stored) (written ws : List (Option ℕ)) (lines restarts since level : ℕ) (own : Option ℕ) (stop : LogStop) (more : List Line) (old then new : LogModel)
    → TurnBegins s old → Settles s mid (Conflict why) → mid.stored ≡ s.stored → Teaches mid why lemma back places → 1 ≤ length lemma → WentBack mid why lemma back places trail written ws lines restarts since level → own ≡ own_number why ((cited mid places).search.clause_lines + 1)
    → Adds stop mid.stored (record { number = lines; clause = lemma }) stored
    → TakesAll (lemma_lines (taught mid why places) lemma) old then → (more ≡ []) ⊎ ((ids : List ℕ) × IsLeftOver (mid.stored ++ record { number = lines; clause = lemma } ∷ []) ws (length (back_to mid.trail level).events) own ids × (more ≡ deletion ids)) → StopsWithin stop more 0 then new
    → TurnMeets s old (turn_of stop) (record (went mid trail stored written lines restarts since) { over = true }) new
stop_meets_past s mid why lemma back places trail stored written ws lines restarts since level own stop more old then new b settles se t literal w o h a remainder d =
    let g = gone_code mid why lemma back places trail written ws lines restarts since level w in
    let an = analysed s mid why lemma back places settles t in
    let p = lemma_lines (taught mid why places) lemma in
    let tail : (was : LogTold) → LogFits was s → (rest : List Line) × (more ++ rest ≡ deletion (unkept (was.lines ++ p) (gone mid why lemma back places))) = λ was fit. elim remainder [
      | inl none ↦ (deletion (unkept (was.lines ++ p) (gone mid why lemma back places)), ap (λ xs. xs ++ deletion (unkept (was.lines ++ p) (gone mid why lemma back places))) none)
      | inr all ↦ ([], append-nil more ∙ all.2 ∙ ap deletion (drops_left mid why lemma back places trail written ws lines restarts since level own all.0 s was w o (known s mid was why lemma back places b.kept b.going b.few fit an t.some) all.1))
    ] in
    subst (λ (x : SearchModel). TurnMeets s old (turn_of stop) (record x { stored = stored; over = true }) new) g
    (past_meets s mid why lemma back places stored more stop old new b an t.some literal (same_taught mid why places) (is_added stop s mid why lemma back places lines stored se (ap (λ (x : SearchModel). x.stored) g) h) tail (omega (arith, a.faults, d.later)) (cause_on stop old then new a.faults d.cause) (stop_here stop p more old then new a d))
