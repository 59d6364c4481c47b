-- The reasons of a lemma and its conflict as they are named and written.
use Rattle.std.proofs.Common.{◌≡◌, ℕ, zero, suc, ◌+◌, ◌^◌, ◌<◌, ◌≤◌, true, List, [], ◌∷◌, ◌++◌, Option, Some, None, length, get_or, map, take, fold, filter_map, slice_get, option_and_then, option_map, All, IsSome, refl, sym, ap, ◌∙◌, subst, arith, inl, inr, append-nil, append_assoc, length-append, length-set}
use Rattle.std.specs.Prelude.{Contains, slice_set}
use Rattle.std.specs.List.{cons_option}
use Rattle.std.proofs.lemmas.Bool.{cases_lt}
use Rattle.std.proofs.lemmas.List.Elements.{All-head, All-tail, All-nil, All-push, All-weaker, All-contains, filter_map-append}
use Rattle.std.proofs.lemmas.Option.{slice_get_past}
use Rattle.hw_lemmas.proofs.Truths.{is_there}
use Rattle.hw_model.specs.declared.lit.Lit.{Lit}
use Rattle.hw_model.specs.declared.narrowing.Narrowed.TheVariants as step
use Rattle.hw_model.specs.declared.source.Source.{Source}
use Rattle.hw_model.specs.Problem.{Problem, shape_of}
use Rattle.hw_model.specs.Lits.{IsClause}
use Rattle.hw_model.specs.Rooms.{RoomModel}
use Rattle.hw_model.specs.Refuting.{Refutes}
use Rattle.hw_model.specs.Replay.{narrowing}
use Rattle.hw_cert_lines.specs.declared.line.Line.{Line}
use Rattle.hw_cert_lines.specs.declared.line.Line.TheVariants as lines
use Rattle.hw_cert_lines.specs.Tolled.{is_plain, tariff_of}
use Rattle.hw_cert_lines.specs.Lines.{source_line, clause_count, clause_at, live, best_of}
use Rattle.hw_cert_lines.specs.Valid.{LineFits, PricedHolds, ValidFrom, denied_room, hinted}
use Rattle.hw_cert_lines.specs.Lemmas.{LeanFrom}
use Rattle.hw_cert_lines.proofs.Pushed.{one_more}
use Rattle.hw_cert_lines.proofs.Deleted.{live_in as live_inside}
use Rattle.hw_trail_laws.specs.declared.event.Event.{Event}
use Rattle.hw_trail_laws.specs.declared.event.Why.{Why}
use Rattle.hw_trail_laws.specs.declared.event.Why.TheVariants as whys
use Rattle.hw_trail_laws.specs.Trails.{TrailModel, reason_clause, reason, room_before, level_after, Because, IsTrail}
use Rattle.hw_trail_laws.specs.Learning.{reason_at, chain_of}
use Rattle.hw_trail_laws.specs.Bridge.{event_at}
use Rattle.hw_trail_laws.proofs.Trails.{told_at}
use Rattle.hw_trail_laws.proofs.Learnt.{reason_is, reason_fits}
use Rattle.hw_store.specs.declared.store.Stored.{Stored}
use Rattle.hw_cert_laws.proofs.Naming.{some_live as live_is}
use Rattle.hw_search_laws.specs.Searches.{SearchModel, IsReason, HasLine, NumbersStay, PricesShow, IsSearch, FitsOpen, LiveKept, best_cargo, written_at, why_at}
use Rattle.hw_search_laws.specs.Settling.{IsConflict}
use Rattle.hw_search_laws.specs.Turns.{why_lines, with_written, Cited, cite_by, cite, cited, cite_conflict}
use Rattle.hw_search_laws.proofs.Lines.{IsClauseLine, source_is, why_is, why_no_lemma, live_stays, new_live, of_some, kept_stored, kept_written, reason_open, reason_kept, one_line, line_open}
use Rattle.hw_search_laws.proofs.Numbers.{contains_here, contains_there, set_stay}
use Rattle.hw_search_laws.proofs.Holds.{Writes, source_writes, plain_tariff, priced_writes, priced_holds, valid_push, lean_push, best_same, trail_clause}

-- ---- why an event came, and its reason's clause

pub why_reason : (t : TrailModel) (q : ℕ) (why : Why) → why_at t q ≡ Some why → reason_at t q ≡ Some (reason_clause why)
why_reason t q why e = by (slice_get t.events q) e
  where
    by : (o : Option Event) → option_and_then (λ (event : Event). event.why) o ≡ Some why → option_and_then reason o ≡ Some (reason_clause why)
    by None e = absurd cc
    by (Some event) e = ap (option_map reason_clause) e

pub why_inside : (t : TrailModel) (q : ℕ) (why : Why) → why_at t q ≡ Some why → q < length t.events
why_inside t q why e = elim (cases_lt q (length t.events)) [
  | inl lt ↦ lt
  | inr past ↦ absurd (let n : None ≡ Some why = sym (ap (option_and_then (λ (event : Event). event.why)) (slice_get_past t.events q past)) ∙ e in cc)
]

pub reason_why : (t : TrailModel) (q : ℕ) → IsSome (reason_at t q) → (why : Why) × (why_at t q ≡ Some why)
reason_why t q h = by (slice_get t.events q) h
  where
    of : (o : Option Why) → IsSome (option_map reason_clause o) → (why : Why) × (o ≡ Some why)
    of None h = absurd cc
    of (Some why) h = (why, refl)

    by : (o : Option Event) → IsSome (option_and_then reason o) → (why : Why) × (option_and_then (λ (event : Event). event.why) o ≡ Some why)
    by None h = absurd cc
    by (Some event) h = of event.why h

-- a reason has its event's literal
pub reason_some : (t : TrailModel) → IsTrail t → (q : ℕ) (c : List Lit) → q < length t.events → reason_at t q ≡ Some c → 1 ≤ length c
reason_some t is q c lt e = by c (reason (event_at t q)) (sym (reason_is t q lt) ∙ e) (told_at t is q lt).because
  where
    by : (c : List Lit) (o : Option (List Lit)) → o ≡ Some c → Because (room_before t q) (level_after (take q t.events)) (event_at t q).lit (event_at t q).level o → 1 ≤ length c
    by c None e b = absurd cc
    by [] (Some d) e b = absurd (let same : d ≡ [] = cc in no_cut (room_before t q) (event_at t q).lit (subst (λ x. narrowing x (room_before t q) ≡ step.Cut (event_at t q).lit) same b.1))
      where
        no_cut : (room : RoomModel) (l : Lit) → narrowing [] room ≡ step.Cut l → ⊥
        no_cut room l e = cc
    by (l ∷ c) (Some d) e b = omega arith

-- ---- hints

hint_by : (a b : Option (List Lit)) (xs ys : List (List Lit)) → a ≡ b → xs ≡ ys → cons_option a xs ≡ cons_option b ys
hint_by a b xs ys e f = ap (λ o. cons_option o xs) e ∙ ap (cons_option b) f

hinted_stays : (f : Problem) (before : List Line) (line : Line) (clause : List Lit) → IsClauseLine line clause → (hints : List ℕ) → All (λ id. IsSome (live before id)) hints → hinted (before ++ line ∷ []) hints ≡ hinted before hints
hinted_stays f before line clause c [] h = refl
hinted_stays f before line clause c (id ∷ hints) h =
    hint_by (live (before ++ line ∷ []) id) (live before id) _ _ ((one_more f before line).earlier id (live_inside before id (All-head (λ id. IsSome (live before id)) id hints h)) (c.no_delete id)) (hinted_stays f before line clause c hints (All-tail (λ id. IsSome (live before id)) id hints h))

hint_push : (before : List Line) (hints : List ℕ) (n : ℕ) (clause : List Lit) (cs : List (List Lit)) → live before n ≡ Some clause → hinted before hints ≡ cs → hinted before (hints ++ n ∷ []) ≡ cs ++ clause ∷ []
hint_push before hints n clause cs e h = filter_map-append (live before) hints (n ∷ []) ∙ ap (λ o. hinted before hints ++ cons_option o []) e ∙ ap (λ xs. xs ++ clause ∷ []) h

reasons_push : (t : TrailModel) (done : List ℕ) (q : ℕ) (clause : List Lit) → reason_at t q ≡ Some clause → filter_map (reason_at t) (done ++ q ∷ []) ≡ filter_map (reason_at t) done ++ clause ∷ []
reasons_push t done q clause e = filter_map-append (reason_at t) done (q ∷ []) ∙ ap (λ o. filter_map (reason_at t) done ++ cons_option o []) e

-- ---- what is kept while reasons are named

abbrev with_numbers : SearchModel → List (Option ℕ) → ℕ → SearchModel
with_numbers s ws n = record s { written = ws; clause_lines = n }

pub record Citing (s : SearchModel) (before : List Line) (done : List ℕ) (c : Cited) : Type 0 where
  pub fit : FitsOpen (before ++ c.lines) c.search
  pub kept : LiveKept (before ++ c.lines) c.search
  pub same : c.search ≡ with_numbers s c.search.written c.search.clause_lines
  pub long : length c.search.written ≡ length s.written
  pub stay : NumbersStay s.written c.search.written
  pub hints : hinted (before ++ c.lines) c.hints ≡ filter_map (reason_at s.trail) done
  pub alive : All (λ id. IsSome (live (before ++ c.lines) id)) c.hints
  pub plain : tariff_of before ≡ None → All (λ line. is_plain line ≡ true) c.lines
  pub shaped : All (LineFits s.problem) c.lines
  pub valid : ValidFrom s.problem before c.lines
  pub lean : LeanFrom s.problem before c.lines
  pub few : c.search.clause_lines ≤ s.clause_lines + length done

-- a stored lemma's number names it
stored_live : (s : SearchModel) (before : List Line) (number : ℕ) (clause : List Lit) → FitsOpen before s → Contains s.stored (record { number = number; clause = clause }) → live before number ≡ Some clause
stored_live s before number clause fit c =
    let at : clause_at before number ≡ Some clause = All-contains (λ (one : Stored). clause_at before one.number ≡ Some one.clause) s.stored (record { number = number; clause = clause }) fit.lemma_stands c in
    live_is before number (fit.kept_live number (kept_stored s number (numbered s.stored number clause c.0 c.1 c.2))) ∙ at
  where
    numbered : (xs : List Stored) (number : ℕ) (clause : List Lit) (k : ℕ) → k < length xs → get_or xs k (record { number = number; clause = clause }) ≡ record { number = number; clause = clause } → Contains (map (λ (one : Stored). one.number) xs) number
    numbered [] number clause k lt e = absurd (omega (arith, lt))
    numbered (x ∷ xs) number clause zero lt e = contains_here x.number (map (λ (one : Stored). one.number) xs) number (ap (λ (one : Stored). one.number) e)
    numbered (x ∷ xs) number clause (suc k) lt e = contains_there x.number (map (λ (one : Stored). one.number) xs) number (numbered xs number clause k (omega (arith, lt)) e)

-- the line of a written reason names it
written_live : (s : SearchModel) (before : List Line) (q n : ℕ) (clause : List Lit) → FitsOpen before s → written_at s q ≡ Some n → reason_at s.trail q ≡ Some clause → live before n ≡ Some clause
written_live s before q n clause fit e r =
    live_is before n (fit.kept_live n (kept_written s q n e)) ∙ of_some (written_at s q) (λ number. clause_at before number ≡ reason_at s.trail q) n e (fit.reason_stands q) ∙ r

-- naming a line that is there
named : (s : SearchModel) (before : List Line) (done : List ℕ) (c : Cited) (q n : ℕ) (clause : List Lit) → Citing s before done c → reason_at s.trail q ≡ Some clause → live (before ++ c.lines) n ≡ Some clause → Citing s before (done ++ q ∷ []) (record c { hints = c.hints ++ n ∷ [] })
named s before done c q n clause h r e = record {
  fit = h.fit;
  kept = h.kept;
  same = h.same;
  long = h.long;
  stay = h.stay;
  hints = hint_push (before ++ c.lines) c.hints n clause (filter_map (reason_at s.trail) done) e h.hints ∙ sym (reasons_push s.trail done q clause r);
  alive = All-push (λ id. IsSome (live (before ++ c.lines) id)) c.hints n h.alive (is_there _ clause e);
  plain = h.plain;
  shaped = h.shaped;
  valid = h.valid;
  lean = h.lean;
  few = omega (arith, h.few, length-append done (q ∷ []));
}

-- writing a line
pub record Wrote (f : Problem) (before lines : List Line) (line : Line) : Type 0 where
  pub plain : tariff_of before ≡ None → All (λ line. is_plain line ≡ true) (lines ++ line ∷ [])
  pub shaped : All (LineFits f) (lines ++ line ∷ [])
  pub valid : ValidFrom f before (lines ++ line ∷ [])
  pub lean : LeanFrom f before (lines ++ line ∷ [])

pub wrote : (f : Problem) (before lines : List Line) (line : Line) → (tariff_of before ≡ None → All (λ line. is_plain line ≡ true) lines) → All (LineFits f) lines → ValidFrom f before lines → LeanFrom f before lines → Writes f (before ++ lines) line → Wrote f before lines line
wrote f before lines line p a v l w = record {
  plain = λ none. All-push (λ line. is_plain line ≡ true) lines line (p none) (w.plain (plain_tariff before lines (p none) ∙ none));
  shaped = All-push (LineFits f) lines line a w.fits;
  valid = valid_push f before lines line v w.valid;
  lean = lean_push f before lines line l w.lean;
}

pub source_wrote : (s u : SearchModel) (before : List Line) (source : Source) (clause : List Lit) → u.problem ≡ s.problem → best_cargo u ≡ best_cargo s → FitsOpen before u → IsReason s (whys.Source source clause) → IsClause (shape_of s.problem) clause → u.clause_lines + 1 < 2 ^ 32 → Writes s.problem before (source_line s.problem source clause)
source_wrote s u before source clause p b fit r is few =
    let best : best_of s.problem before ≡ best_cargo s = subst (λ f. best_of f before ≡ best_cargo u) p (best_same u before fit) ∙ b in
    source_writes s.problem before source clause r.0 is (subst (λ o. Refutes s.problem source o (denied_room s.problem clause)) (sym best) r.1) r.2 fit.none_empty (omega (arith, few, fit.count))

-- the line of a clause that the prices in force show
pub priced_wrote : (s u : SearchModel) (before : List Line) (clause : List Lit) (ws : List (Option ℕ)) (n : ℕ) → u ≡ with_numbers s ws n → FitsOpen before u → PricesShow s clause → IsClause (shape_of s.problem) clause → u.clause_lines + 1 < 2 ^ 32 → Writes s.problem before (lines.Priced clause)
priced_wrote s u before clause ws n same fit show is few =
    let shown : PricesShow u clause = subst (λ (x : SearchModel). PricesShow x clause) (sym same) (record { refuted = show.refuted; speaks = show.speaks }) in
    let holds : PricedHolds s.problem before clause = subst (λ (f : Problem). PricedHolds f before clause) (ap (λ (x : SearchModel). x.problem) same) (priced_holds u before clause fit shown) in
    priced_writes s.problem before clause is holds show.speaks fit.none_empty (omega (arith, few, fit.count))

-- the line of a conflict that is no stored lemma
pub why_wrote : (s u : SearchModel) (before : List Line) (why : Why) (line : Line) (ws : List (Option ℕ)) (n : ℕ) → u ≡ with_numbers s ws n → FitsOpen before u → IsConflict s why → why_lines s.problem why ≡ line ∷ [] → u.clause_lines + 1 < 2 ^ 32 → Writes s.problem before line
why_wrote s u before (whys.Lemma number clause) line ws n same fit k e few = absurd cc
why_wrote s u before (whys.Source source clause) line ws n same fit k e few =
    let is : source_line s.problem source clause ≡ line = cc in
    subst (Writes s.problem before) is (source_wrote s u before source clause (ap (λ (x : SearchModel). x.problem) same) (ap best_cargo same) fit k.holds k.fits few)
why_wrote s u before (whys.Priced clause) line ws n same fit k e few =
    let is : lines.Priced clause ≡ line = cc in
    subst (Writes s.problem before) is (priced_wrote s u before clause ws n same fit k.shown k.fits few)

-- the numbers of a search don't matter to its problem and best
pub same_problem : (s : SearchModel) (before : List Line) (done : List ℕ) (c : Cited) → Citing s before done c → c.search.problem ≡ s.problem
same_problem s before done c h = ap (λ (x : SearchModel). x.problem) h.same

same_best : (s : SearchModel) (before : List Line) (done : List ℕ) (c : Cited) → Citing s before done c → best_cargo c.search ≡ best_cargo s
same_best s before done c h = ap best_cargo h.same

same_trail : (s : SearchModel) (before : List Line) (done : List ℕ) (c : Cited) → Citing s before done c → c.search.trail ≡ s.trail
same_trail s before done c h = ap (λ (x : SearchModel). x.trail) h.same

same_stored : (s : SearchModel) (before : List Line) (done : List ℕ) (c : Cited) → Citing s before done c → c.search.stored ≡ s.stored
same_stored s before done c h = ap (λ (x : SearchModel). x.stored) h.same

-- writing the reason of an event
written_one : (s : SearchModel) (before : List Line) (done : List ℕ) (c : Cited) (q : ℕ) (source : Source) (clause : List Lit) → IsSearch s → Citing s before done c → why_at s.trail q ≡ Some (whys.Source source clause) → written_at c.search q ≡ None → s.clause_lines + length done + 1 < 2 ^ 32
    → Citing s before (done ++ q ∷ []) (record { search = with_written c.search q; lines = c.lines ++ source_line c.search.problem source clause ∷ []; hints = c.hints ++ (c.search.clause_lines + 1) ∷ [] })
written_one s before done c q source clause is h w none few =
    let line = source_line c.search.problem source clause in
    let lt : q < length s.trail.events = why_inside s.trail q (whys.Source source clause) w in
    let r : reason_at s.trail q ≡ Some clause = why_reason s.trail q (whys.Source source clause) w in
    let r' : reason_at c.search.trail q ≡ Some clause = ap (λ (t : TrailModel). reason_at t q) (same_trail s before done c h) ∙ r in
    let some = reason_some s.trail is.trail q clause lt r in
    let p = same_problem s before done c h in
    let holds : IsReason s (whys.Source source clause) = of_some (why_at s.trail q) (IsReason s) (whys.Source source clause) w (is.reasons q) in
    let fits : IsClause (shape_of s.problem) clause = trail_clause s is.same_ships is.same_slots clause (reason_fits s.trail is.trail q lt clause (sym (reason_is s.trail q lt) ∙ r)) in
    let e : (before ++ c.lines) ++ line ∷ [] ≡ before ++ (c.lines ++ line ∷ []) = append_assoc before c.lines (line ∷ []) in
    let ls = source_is c.search.problem source clause in
    let writes : Writes s.problem (before ++ c.lines) line = subst (λ f. Writes s.problem (before ++ c.lines) (source_line f source clause)) (sym p) (source_wrote s c.search (before ++ c.lines) source clause p (same_best s before done c h) h.fit holds fits (omega (arith, few, h.few))) in
    let all = wrote s.problem before c.lines line h.plain h.shaped h.valid h.lean writes in
    let n : clause_count (before ++ c.lines) + 1 ≡ c.search.clause_lines + 1 = ap (λ k. k + 1) h.fit.count in
    let new : live (before ++ (c.lines ++ line ∷ [])) (c.search.clause_lines + 1) ≡ Some clause = subst (λ xs. live xs (c.search.clause_lines + 1) ≡ Some clause) e (subst (λ k. live ((before ++ c.lines) ++ line ∷ []) k ≡ Some clause) n (new_live c.search.problem (before ++ c.lines) line clause h.fit.deletes_earlier ls)) in
    let old : hinted (before ++ (c.lines ++ line ∷ [])) c.hints ≡ filter_map (reason_at s.trail) done = subst (λ xs. hinted xs c.hints ≡ filter_map (reason_at s.trail) done) e (hinted_stays c.search.problem (before ++ c.lines) line clause ls c.hints h.alive ∙ h.hints) in
    let long : q < length c.search.written = omega (arith, lt, is.each_event, h.long) in
    record {
      fit = subst (λ xs. FitsOpen xs (with_written c.search q)) e (reason_open c.search (before ++ c.lines) q source clause h.fit r' none some);
      kept = subst (λ xs. LiveKept xs (with_written c.search q)) e (reason_kept c.search (before ++ c.lines) q source clause h.fit h.kept long none);
      same = ap (λ (x : SearchModel). record x { written = slice_set c.search.written q (Some (c.search.clause_lines + 1)); clause_lines = c.search.clause_lines + 1 }) h.same;
      long = length-set c.search.written q (Some (c.search.clause_lines + 1)) ∙ h.long;
      stay = λ k written. set_stay c.search.written q (c.search.clause_lines + 1) k (h.stay k written);
      hints = hint_push (before ++ (c.lines ++ line ∷ [])) c.hints (c.search.clause_lines + 1) clause (filter_map (reason_at s.trail) done) new old ∙ sym (reasons_push s.trail done q clause r);
      alive = All-push (λ id. IsSome (live (before ++ (c.lines ++ line ∷ [])) id)) c.hints (c.search.clause_lines + 1)
          (subst (λ xs. All (λ id. IsSome (live xs id)) c.hints) e (All-weaker (λ id. IsSome (live (before ++ c.lines) id)) (λ id. IsSome (live ((before ++ c.lines) ++ line ∷ []) id)) (λ id k. live_stays c.search.problem (before ++ c.lines) line id (ls.no_delete id) k) c.hints h.alive))
          (is_there _ clause new);
      plain = all.plain;
      shaped = all.shaped;
      valid = all.valid;
      lean = all.lean;
      few = omega (arith, h.few, length-append done (q ∷ []));
    }

cite_step : (s : SearchModel) (before : List Line) (done : List ℕ) (c : Cited) (q : ℕ) (why : Why) → IsSearch s → Citing s before done c → why_at s.trail q ≡ Some why → s.clause_lines + length done + 1 < 2 ^ 32 → (n : Option ℕ) → written_at c.search q ≡ n → Citing s before (done ++ q ∷ []) (cite_by c q (Some why) n)
cite_step s before done c q (whys.Lemma number clause) is h w few n e =
    let r : reason_at s.trail q ≡ Some clause = why_reason s.trail q (whys.Lemma number clause) w in
    let holds : Contains s.stored (record { number = number; clause = clause }) = of_some (why_at s.trail q) (IsReason s) (whys.Lemma number clause) w (is.reasons q) in
    named s before done c q number clause h r (stored_live c.search (before ++ c.lines) number clause h.fit (subst (λ xs. Contains xs (record { number = number; clause = clause })) (sym (same_stored s before done c h)) holds))
cite_step s before done c q (whys.Source source clause) is h w few (Some n) e =
    let r : reason_at s.trail q ≡ Some clause = why_reason s.trail q (whys.Source source clause) w in
    let r' : reason_at c.search.trail q ≡ Some clause = ap (λ (t : TrailModel). reason_at t q) (same_trail s before done c h) ∙ r in
    named s before done c q n clause h r (written_live c.search (before ++ c.lines) q n clause h.fit e r')
cite_step s before done c q (whys.Source source clause) is h w few None e = written_one s before done c q source clause is h w e few
cite_step s before done c q (whys.Priced clause) is h w few (Some n) e =
    let r : reason_at s.trail q ≡ Some clause = why_reason s.trail q (whys.Priced clause) w in
    let r' : reason_at c.search.trail q ≡ Some clause = ap (λ (t : TrailModel). reason_at t q) (same_trail s before done c h) ∙ r in
    named s before done c q n clause h r (written_live c.search (before ++ c.lines) q n clause h.fit e r')
cite_step s before done c q (whys.Priced clause) is h w few None e =
    let has : IsSome (written_at s q) = of_some (why_at s.trail q) (HasLine (written_at s q)) (whys.Priced clause) w (is.priced_lines q) in
    absurd (none_some (written_at c.search q) e (h.stay q has))
  where
    none_some : (o : Option ℕ) → o ≡ None → IsSome o → ⊥
    none_some None e some = cc
    none_some (Some n) e some = cc

pub cite_one : (s : SearchModel) (before : List Line) (done : List ℕ) (c : Cited) (q : ℕ) → IsSearch s → Citing s before done c → IsSome (reason_at s.trail q) → s.clause_lines + length done + 1 < 2 ^ 32 → Citing s before (done ++ q ∷ []) (cite c q)
cite_one s before done c q is h some few =
    let w = reason_why s.trail q some in
    let at : why_at c.search.trail q ≡ Some w.0 = ap (λ (t : TrailModel). why_at t q) (same_trail s before done c h) ∙ w.1 in
    subst (λ o. Citing s before (done ++ q ∷ []) (cite_by c q o (written_at c.search q))) (sym at) (cite_step s before done c q w.0 is h w.1 few (written_at c.search q) refl)

cite_all : (s : SearchModel) (before : List Line) (done places : List ℕ) (c : Cited) → IsSearch s → Citing s before done c → All (λ place. IsSome (reason_at s.trail place)) places → s.clause_lines + length done + length places < 2 ^ 32 → Citing s before (done ++ places) (fold cite c places)
cite_all s before done [] c is h some few = subst (λ xs. Citing s before xs c) (sym (append-nil done)) h
cite_all s before done (q ∷ places) c is h some few =
    let one = cite_one s before done c q is h (All-head (λ place. IsSome (reason_at s.trail place)) q places some) (omega (arith, few)) in
    subst (λ xs. Citing s before xs (fold cite (cite c q) places)) (append_assoc done (q ∷ []) places)
    (cite_all s before (done ++ q ∷ []) places (cite c q) is one (All-tail (λ place. IsSome (reason_at s.trail place)) q places some) (omega (arith, few, length-append done (q ∷ []))))

pub cites : (s : SearchModel) (before : List Line) (places : List ℕ) → IsSearch s → FitsOpen before s → LiveKept before s → All (λ place. IsSome (reason_at s.trail place)) places → s.clause_lines + length places < 2 ^ 32 → Citing s before places (cited s places)
cites s before places is fit kept some few = cite_all s before [] places (record { search = s; lines = []; hints = [] }) is (record {
  fit = subst (λ xs. FitsOpen xs s) (sym (append-nil before)) fit;
  kept = subst (λ xs. LiveKept xs s) (sym (append-nil before)) kept;
  same = refl;
  long = refl;
  stay = λ q written. written;
  hints = refl;
  alive = All-nil (λ id. IsSome (live (before ++ []) id));
  plain = λ none. All-nil (λ line. is_plain line ≡ true);
  shaped = All-nil (LineFits s.problem);
  valid = tt;
  lean = tt;
  few = omega arith;
}) some (omega (arith, few))

-- ---- and then the conflict

pub record Prepared (s : SearchModel) (before : List Line) (places : List ℕ) (clause : List Lit) (c : Cited) : Type 0 where
  pub fit : FitsOpen (before ++ c.lines) c.search
  pub same : c.search ≡ with_numbers s c.search.written c.search.clause_lines
  pub long : length c.search.written ≡ length s.written
  pub stay : NumbersStay s.written c.search.written
  pub hints : hinted (before ++ c.lines) c.hints ≡ chain_of s.trail places clause
  pub alive : All (λ id. IsSome (live (before ++ c.lines) id)) c.hints
  pub plain : tariff_of before ≡ None → All (λ line. is_plain line ≡ true) c.lines
  pub shaped : All (LineFits s.problem) c.lines
  pub valid : ValidFrom s.problem before c.lines
  pub lean : LeanFrom s.problem before c.lines
  pub few : c.search.clause_lines ≤ s.clause_lines + length places + 1

-- with a line of its own
prepared_line : (s : SearchModel) (before : List Line) (places : List ℕ) (c : Cited) (why : Why) (line : Line) → Citing s before places c → IsConflict s why → why_lines s.problem why ≡ line ∷ [] → 1 ≤ length (reason_clause why) → s.clause_lines + length places + 1 < 2 ^ 32
    → Prepared s before places (reason_clause why) (record { search = record c.search { clause_lines = c.search.clause_lines + 1 }; lines = c.lines ++ line ∷ []; hints = c.hints ++ (c.search.clause_lines + 1) ∷ [] })
prepared_line s before places c why line h k own some few =
    let clause = reason_clause why in
    let e : (before ++ c.lines) ++ line ∷ [] ≡ before ++ (c.lines ++ line ∷ []) = append_assoc before c.lines (line ∷ []) in
    let ls = why_is s.problem why line own in
    let writes : Writes s.problem (before ++ c.lines) line = why_wrote s c.search (before ++ c.lines) why line c.search.written c.search.clause_lines h.same h.fit k own (omega (arith, few, h.few)) in
    let all = wrote s.problem before c.lines line h.plain h.shaped h.valid h.lean writes in
    let n : clause_count (before ++ c.lines) + 1 ≡ c.search.clause_lines + 1 = ap (λ m. m + 1) h.fit.count in
    let new : live (before ++ (c.lines ++ line ∷ [])) (c.search.clause_lines + 1) ≡ Some clause = subst (λ xs. live xs (c.search.clause_lines + 1) ≡ Some clause) e (subst (λ m. live ((before ++ c.lines) ++ line ∷ []) m ≡ Some clause) n (new_live c.search.problem (before ++ c.lines) line clause h.fit.deletes_earlier ls)) in
    let old : hinted (before ++ (c.lines ++ line ∷ [])) c.hints ≡ filter_map (reason_at s.trail) places = subst (λ xs. hinted xs c.hints ≡ filter_map (reason_at s.trail) places) e (hinted_stays c.search.problem (before ++ c.lines) line clause ls c.hints h.alive ∙ h.hints) in
    record {
      fit = subst (λ xs. FitsOpen xs (one_line c.search)) e (line_open c.search (before ++ c.lines) line clause h.fit ls (why_no_lemma s.problem why line own) some);
      same = ap (λ (x : SearchModel). record x { clause_lines = c.search.clause_lines + 1 }) h.same;
      long = h.long;
      stay = h.stay;
      hints = hint_push (before ++ (c.lines ++ line ∷ [])) c.hints (c.search.clause_lines + 1) clause (filter_map (reason_at s.trail) places) new old;
      alive = All-push (λ id. IsSome (live (before ++ (c.lines ++ line ∷ [])) id)) c.hints (c.search.clause_lines + 1)
          (subst (λ xs. All (λ id. IsSome (live xs id)) c.hints) e (All-weaker (λ id. IsSome (live (before ++ c.lines) id)) (λ id. IsSome (live ((before ++ c.lines) ++ line ∷ []) id)) (λ id m. live_stays c.search.problem (before ++ c.lines) line id (ls.no_delete id) m) c.hints h.alive))
          (is_there _ clause new);
      plain = all.plain;
      shaped = all.shaped;
      valid = all.valid;
      lean = all.lean;
      few = omega (arith, h.few);
    }

pub prepared : (s : SearchModel) (before : List Line) (places : List ℕ) (c : Cited) (why : Why) → Citing s before places c → IsConflict s why → 1 ≤ length (reason_clause why) → s.clause_lines + length places + 1 < 2 ^ 32 → Prepared s before places (reason_clause why) (cite_conflict c why)
prepared s before places c (whys.Lemma number clause) h k some few =
    let e = stored_live c.search (before ++ c.lines) number clause h.fit (subst (λ xs. Contains xs (record { number = number; clause = clause })) (sym (same_stored s before places c h)) k.holds) in
    record {
      fit = h.fit;
      same = h.same;
      long = h.long;
      stay = h.stay;
      hints = hint_push (before ++ c.lines) c.hints number clause (filter_map (reason_at s.trail) places) e h.hints;
      alive = All-push (λ id. IsSome (live (before ++ c.lines) id)) c.hints number h.alive (is_there _ clause e);
      plain = h.plain;
      shaped = h.shaped;
      valid = h.valid;
      lean = h.lean;
      few = omega (arith, h.few);
    }
prepared s before places c (whys.Source source clause) h k some few =
    prepared_line s before places c (whys.Source source clause) (source_line c.search.problem source clause) h k (ap (λ (f : Problem). source_line f source clause ∷ []) (sym (same_problem s before places c h))) some few
prepared s before places c (whys.Priced clause) h k some few = prepared_line s before places c (whys.Priced clause) (lines.Priced clause) h k refl some few
