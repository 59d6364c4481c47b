-- The laws of lines and turns, put together.
use Rattle.std.proofs.Common.{◌≡◌, ℕ, zero, suc, ◌+◌, ◌^◌, ◌<◌, ◌≤◌, ◌||◌, Bool, true, false, List, [], ◌∷◌, ◌++◌, Option, Some, None, length, IsSome, IsSomeAnd, IsTrue, refl, sym, ap, ◌∙◌, subst, arith, append-nil, append_assoc}
use Rattle.std.proofs.lemmas.List.Elements.{All-nil}
use Rattle.hw_model.specs.declared.lit.Lit.{Lit}
use Rattle.hw_model.specs.declared.source.Source.{Source}
use Rattle.hw_model.specs.Problem.{Problem, shape_of}
use Rattle.hw_model.specs.Limits.{IsFlat}
use Rattle.hw_model.specs.Timetables.{Permits, cargo, beats}
use Rattle.hw_model.specs.Lits.{IsClause}
use Rattle.hw_model.specs.Rooms.{IsPoint, point_of}
use Rattle.hw_model_laws.proofs.Points.{permitted, worth_it}
use Rattle.hw_cert_lines.specs.declared.line.Line.{Line}
use Rattle.hw_cert_lines.specs.declared.line.Line.TheVariants as lines
use Rattle.hw_cert_lines.specs.Lines.{source_line, clause_at, live, is_end, is_closed}
use Rattle.hw_cert_lines.proofs.Pushed.{one_more}
use Rattle.hw_cert_laws.proofs.Numbered.{count_append}
use Rattle.hw_trail_laws.specs.declared.event.Why.{Why}
use Rattle.hw_trail_laws.specs.declared.event.Why.TheVariants as whys
use Rattle.hw_trail_laws.specs.Trails.{reason_clause, most_events}
use Rattle.hw_trail_laws.specs.Learning.{reason_at, Learns}
use Rattle.hw_trail_laws.proofs.Learnt.{reason_is, reason_fits}
use Rattle.hw_search_laws.specs.declared.outcome.Branching.{Branching}
use Rattle.hw_cert.specs.Logs.{LogTold}
use Rattle.hw_store.specs.declared.store.Stored.{Stored}
use Rattle.hw_search_laws.specs.Searches.{SearchModel, new_search, IsSearch, IsReason, FitsOpen, LiveKept, LogFits, room_in, best_cargo, written_at, why_at}
use Rattle.hw_search_laws.specs.Settling.{AllQuiet, IsConflict}
use Rattle.hw_search_laws.specs.Turns.{why_lines, with_written, cited, cite_conflict, with_lemma, to_level, gone_back, unkept}
use Rattle.hw_cert_laws.specs.Renewing.{deletion}
use Rattle.hw_search_laws.specs.Laws.{GoodLine, FitGoes, ConflictMeets, FitChanges, lemma_lines, LemmaMeets, EndMeets}
use Rattle.hw_search_laws.proofs.Lines.{IsClauseLine, why_is, why_no_lemma, of_some, reason_open, reason_kept, line_open, table_open, table_kept}
use Rattle.hw_search_laws.proofs.Backs.{events_open, events_kept, decided_open, decided_live, back_open, deleted_open, deleted_kept, nothing_kept, deletion_valid}
use Rattle.hw_search_laws.proofs.Holds.{Writes, table_writes, room_fits, nothing_refutes, trail_clause}
use Rattle.hw_search_laws.proofs.Citing.{Prepared, cites, prepared, source_wrote, why_wrote, why_inside, why_reason, reason_some}
use Rattle.hw_search_laws.proofs.LemmaTurn.{lemma_written, lemma_done, few_places}
use Rattle.hw_search_laws.proofs.Keeps.{new_kept, better_search, lemma_search}
use Rattle.hw_search_laws.proofs.Bounds.{few_numbers}
use Rattle.hw_search_laws.proofs.Trues.{lemma_true}

good : (f : Problem) (before : List Line) (line : Line) → Writes f before line → GoodLine f before line
good f before line w = record { plain = w.plain; fits = w.fits; valid = w.valid; lean = w.lean }

pub starts : (f : Problem) (branching : Branching) (told : LogTold) → IsFlat f → told.lines ≡ [] → told.remainder ≡ [] → IsSearch (new_search f branching) × LogFits told (new_search f branching)
starts f branching told flat none remainder = (
  new_kept f branching flat,
  record {
    no_remainder = remainder;
    fits = subst (λ xs. FitsOpen xs (new_search f branching)) (sym none) (record {
      lemmas = refl;
      count = refl;
      best = refl;
      none_empty = refl;
      lemma_stands = All-nil (λ (one : Stored). clause_at [] one.number ≡ Some one.clause);
      reason_stands = λ place. tt;
      kept_live = λ number h. absurd (omega (arith, h.1));
      deletes_earlier = λ number lt. refl;
      prices = record { tolls = refl; tariff = refl; bound = refl };
    });
    live_kept = subst (λ xs. LiveKept xs (new_search f branching)) (sym none) (λ number h. absurd (no_line number h));
  },
)
  where
    no_line : (number : ℕ) → IsSome (live [] number) → ⊥
    no_line zero h = cc
    no_line (suc n) h = cc

pub reason : (s : SearchModel) (before : List Line) (place : ℕ) (source : Source) (clause : List Lit) → IsSearch s → FitsOpen before s → why_at s.trail place ≡ Some (whys.Source source clause) → written_at s place ≡ None → s.clause_lines + 1 < 2 ^ 32
    → GoodLine s.problem before (source_line s.problem source clause) × FitGoes before s (before ++ source_line s.problem source clause ∷ []) (with_written s place)
reason s before place source clause is fit w none few =
    let lt = why_inside s.trail place (whys.Source source clause) w in
    let r : reason_at s.trail place ≡ Some clause = why_reason s.trail place (whys.Source source clause) w in
    let holds : IsReason s (whys.Source source clause) = of_some (why_at s.trail place) (IsReason s) (whys.Source source clause) w (is.reasons place) in
    let fits : IsClause (shape_of s.problem) clause = trail_clause s is.same_ships is.same_slots clause (reason_fits s.trail is.trail place lt clause (sym (reason_is s.trail place lt) ∙ r)) in (
      good s.problem before (source_line s.problem source clause) (source_wrote s s before source clause refl refl fit holds fits few),
      record {
        opened = reason_open s before place source clause fit r none (reason_some s.trail is.trail place clause lt r);
        kept = λ k. reason_kept s before place source clause fit k (omega (arith, lt, is.each_event)) none;
      },
    )

closes : (f : Problem) (before : List Line) (line : Line) (clause : List Lit) → IsClauseLine line clause → clause ≡ [] → is_closed (before ++ line ∷ []) ≡ true
closes f before line clause c none = (one_more f before line).closed ∙ ap (λ o. is_closed before || is_end o) (c.has ∙ ap (λ xs. Some xs) none) ∙ last (is_closed before)
  where
    last : (b : Bool) → (b || true) ≡ true
    last true = refl
    last false = refl

pub conflict : (s : SearchModel) (before : List Line) (why : Why) (line : Line) → IsSearch s → FitsOpen before s → IsConflict s why → why_lines s.problem why ≡ line ∷ [] → s.clause_lines + 1 < 2 ^ 32 → ConflictMeets s before why line
conflict s before why line is fit k own few =
    let c = why_is s.problem why line own in
    record {
      good = good s.problem before line (why_wrote s s before why line s.written s.clause_lines refl fit k own few);
      fits = λ some. line_open s before line (reason_clause why) fit c (why_no_lemma s.problem why line own) some;
      closes = λ none. closes s.problem before line (reason_clause why) c none;
    }

worth : (o : Option ℕ) (P : ℕ → Type 0) → IsSomeAnd o P → (c : ℕ) × (o ≡ Some c) × P c
worth None P h = absurd h
worth (Some c) P h = (c, refl, h)

pub point_table : (s : SearchModel) → IsSearch s → AllQuiet s → IsPoint (room_in s) → Permits s.problem (point_of (room_in s)) × (c : ℕ) × (cargo s.problem (point_of (room_in s)) ≡ Some c) × IsTrue (beats c (best_cargo s))
point_table s is quiet point =
    let room = room_fits s is.trail is.same_ships is.same_slots in
    let n = nothing_refutes s quiet in
    let w = worth (cargo s.problem (point_of (room_in s))) (λ c. IsTrue (beats c (best_cargo s))) (worth_it s.problem (best_cargo s) (room_in s) room point n) in
    (permitted s.problem (best_cargo s) (room_in s) room point n, w.0, w.1, w.2)

pub table : (s : SearchModel) (before : List Line) (new : List ℕ) (c : ℕ) → IsSearch s → FitsOpen before s → Permits s.problem new → cargo s.problem new ≡ Some c → IsTrue (beats c (best_cargo s))
    → GoodLine s.problem before (lines.Table new) × FitGoes before s (before ++ lines.Table new ∷ []) (record s { best = Some new }) × IsSearch (record s { best = Some new })
table s before new c is fit permits value above = (
  good s.problem before (lines.Table new) (table_writes s before new c fit permits value above),
  record { opened = table_open s before new fit; kept = table_kept s before new },
  better_search s new c is permits value above,
)

delete_by : (s : SearchModel) (before : List Line) (ids : List ℕ) → unkept before s ≡ ids → FitsOpen before s → FitsOpen (before ++ deletion ids) s × LiveKept (before ++ deletion ids) s
delete_by s before [] e fit = (subst (λ xs. FitsOpen xs s) (sym (append-nil before)) fit, subst (λ xs. LiveKept xs s) (sym (append-nil before)) (nothing_kept before s e))
delete_by s before (id ∷ ids) e fit = (deleted_open before s (id ∷ ids) e fit, deleted_kept before s (id ∷ ids) e)

pub delete : (s : SearchModel) (before : List Line) → FitsOpen before s → ((ids : List ℕ) → unkept before s ≡ ids → (1 ≤ length ids → GoodLine s.problem before (lines.Delete ids))) × FitsOpen (before ++ deletion (unkept before s)) s × LiveKept (before ++ deletion (unkept before s)) s
delete s before fit =
    let d = delete_by s before (unkept before s) refl fit in
    (λ ids e some. by ids e some, d.0, d.1)
  where
    by : (ids : List ℕ) → unkept before s ≡ ids → 1 ≤ length ids → GoodLine s.problem before (lines.Delete ids)
    by [] e some = absurd (omega (arith, some))
    by (id ∷ ids) e some = let v = deletion_valid s.problem before s id ids e fit.none_empty in record { plain = λ none. refl; fits = v.0; valid = v.1; lean = tt }

pub fit_changes : (s : SearchModel) (before : List Line) → IsSearch s → FitsOpen before s → FitChanges s before
fit_changes s before is fit = record {
  implied = λ more. record { opened = events_open before s more fit; kept = events_kept before s more };
  decision = λ lit. record {
    opened = decided_open before s (record { lit = lit; level = s.trail.level + 1; why = None }) fit;
    kept = decided_live before s (record { lit = lit; level = s.trail.level + 1; why = None });
  };
  back = λ level. back_open before s (to_level s level) level is.trail refl refl refl refl refl refl fit;
}

-- ---- a turn with a lemma

pub few_for : (s : SearchModel) (why : Why) (lemma : List Lit) (back : ℕ) (places : List ℕ) → IsSearch s → Learns s.trail (reason_clause why) lemma back places → length places ≤ most_events s.problem.ships s.problem.slots
few_for s why lemma back places is learns =
    subst (λ n. length places ≤ most_events n s.problem.slots) is.same_ships (subst (λ n. length places ≤ most_events s.trail.ships n) is.same_slots (few_places s.trail is.trail places learns.ascends learns.reasons))

prepare : (s : SearchModel) (before : List Line) (why : Why) (lemma : List Lit) (back : ℕ) (places : List ℕ) → IsSearch s → s.over ≡ false → s.lemmas < 100000 → FitsOpen before s → LiveKept before s → IsConflict s why → 1 ≤ length (reason_clause why) → Learns s.trail (reason_clause why) lemma back places → Prepared s before places (reason_clause why) (cite_conflict (cited s places) why)
prepare s before why lemma back places is over few fit kept k some learns =
    let n = few_numbers s is over few in
    let p = few_for s why lemma back places is learns in
    prepared s before places (cited s places) why (cites s before places is fit kept learns.reasons (omega (arith, n, p))) k some (omega (arith, n, p))

pub lemma_meets : (s : SearchModel) (before : List Line) (why : Why) (lemma : List Lit) (back : ℕ) (places : List ℕ) → IsSearch s → s.over ≡ false → s.lemmas < 100000 → FitsOpen before s → LiveKept before s → IsConflict s why → 1 ≤ length (reason_clause why) → Learns s.trail (reason_clause why) lemma back places → 1 ≤ length lemma
    → LemmaMeets s before why lemma back places (cite_conflict (cited s places) why) (gone_back (with_lemma (cite_conflict (cited s places) why).search lemma) back)
lemma_meets s before why lemma back places is over few fit kept k some learns literal =
    let c = cite_conflict (cited s places) why in
    let n = few_numbers s is over few in
    let m = few_for s why lemma back places is learns in
    let p = prepare s before why lemma back places is over few fit kept k some learns in
    let w = lemma_written s before why lemma back places c is fit p learns (omega (arith, n, m)) in
    let d = lemma_done s before why lemma back places c is fit p learns literal (omega (arith, n, m)) in
    let after = gone_back (with_lemma c.search lemma) back in
    let e : before ++ (lemma_lines c lemma ++ deletion (unkept (before ++ lemma_lines c lemma) after)) ≡ (before ++ lemma_lines c lemma) ++ deletion (unkept (before ++ lemma_lines c lemma) after) = sym (append_assoc before (lemma_lines c lemma) (deletion (unkept (before ++ lemma_lines c lemma) after))) in
    let low : s.clause_lines ≤ c.search.clause_lines = omega (arith, p.fit.count, fit.count, count_append before c.lines) in
    let high : c.search.clause_lines ≤ s.clause_lines + most_events s.problem.ships s.problem.slots + 1 = omega (arith, p.few, m) in
    record {
      hints = p.hints;
      well = d.well;
      fits = subst (λ xs. FitsOpen xs after) e d.fits;
      kept = subst (λ xs. LiveKept xs after) e d.kept;
      few = omega (arith, w.few, m);
      search = subst (λ (x : SearchModel). IsSearch (gone_back (with_lemma x lemma) back)) (sym p.same) (lemma_search s c.search.written c.search.clause_lines (reason_clause why) lemma back places is over p.long p.stay low high learns literal (lemma_true s is why lemma back places k learns));
    }

pub last : (s : SearchModel) (before : List Line) (why : Why) (back : ℕ) (places : List ℕ) → IsSearch s → s.over ≡ false → s.lemmas < 100000 → FitsOpen before s → LiveKept before s → IsConflict s why → 1 ≤ length (reason_clause why) → Learns s.trail (reason_clause why) [] back places
    → EndMeets s before why places (cite_conflict (cited s places) why)
last s before why back places is over few fit kept k some learns =
    let c = cite_conflict (cited s places) why in
    let n = few_numbers s is over few in
    let m = few_for s why [] back places is learns in
    let p = prepare s before why [] back places is over few fit kept k some learns in
    let w = lemma_written s before why [] back places c is fit p learns (omega (arith, n, m)) in
    let e : (before ++ c.lines) ++ lines.Lemma [] c.hints ∷ [] ≡ before ++ lemma_lines c [] = append_assoc before c.lines (lines.Lemma [] c.hints ∷ []) in
    record {
      hints = p.hints;
      well = record { plain = w.plain; fit = w.shaped; valid = w.valid; lean = w.lean; new = λ old. w.new };
      closed = subst (λ xs. is_closed xs ≡ true) e ((one_more s.problem (before ++ c.lines) (lines.Lemma [] c.hints)).closed ∙ end (is_closed (before ++ c.lines)));
      few = omega (arith, w.few, m);
    }
  where
    end : (b : Bool) → (b || true) ≡ true
    end true = refl
    end false = refl
