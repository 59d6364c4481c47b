-- Few clauses are live after each line of a turn.
use Rattle.std.proofs.Common.{◌≡◌, ℕ, zero, suc, ◌+◌, ◌-◌, ◌^◌, ◌<◌, ◌≤◌, true, false, List, [], ◌∷◌, ◌++◌, Option, Some, None, length, map, filter_map, fold, take, is_some, All, IsSome, refl, sym, ap, ◌∙◌, subst, arith, inl, inr, append-nil, append_assoc, length-append}
use Rattle.std.specs.Prelude.{◌==◌}
use Rattle.std.specs.List.{list_any, range_with_len}
use Rattle.std.proofs.lemmas.Bool.{cases_lt, or_left, or_right, eq-eqb}
use Rattle.std.proofs.lemmas.List.{length-map, take-append-le}
use Rattle.std.proofs.lemmas.List.Elements.{All-head, All-tail, filter_map-append}
use Rattle.std.proofs.Math.Seq.{take-append-add}
use Rattle.hw_model.specs.declared.lit.Lit.{Lit}
use Rattle.hw_model.specs.Problem.{Problem}
use Rattle.hw_cert_lines.specs.declared.line.Line.{Line}
use Rattle.hw_cert_lines.specs.declared.line.Line.TheVariants as lines
use Rattle.hw_cert_lines.specs.Lines.{source_line, clause_count, live, live_numbers}
use Rattle.hw_cert_lines.specs.Lemmas.{lemma_of, lemmas_of}
use Rattle.hw_trail_laws.specs.declared.event.Why.{Why}
use Rattle.hw_trail_laws.specs.declared.event.Why.TheVariants as whys
use Rattle.hw_trail_laws.specs.Trails.{reason_clause, most_events}
use Rattle.hw_trail_laws.specs.Learning.{Learns, reason_at}
use Rattle.hw_store.specs.declared.store.Stored.{Stored}
use Rattle.hw_search_laws.specs.Searches.{SearchModel, IsSearch, FitsOpen, LiveKept, kept_numbers, why_at, written_at}
use Rattle.hw_search_laws.specs.Settling.{IsConflict}
use Rattle.hw_search_laws.specs.Turns.{why_lines, Cited, cite_by, cite, cited, cite_conflict, with_lemma, gone_back, unkept}
use Rattle.hw_cert_laws.specs.Renewing.{deletion}
use Rattle.hw_search_laws.specs.Living.{FewLive, FewLiveFrom, FewLiveThroughout}
use Rattle.hw_search_laws.specs.Laws.{lemma_lines, LemmaMeets, LiveTurn}
use Rattle.hw_search_laws.proofs.Lines.{IsClauseLine, source_is, priced_is, lemma_is, source_no_lemma, same_lemmas, live_back}
use Rattle.hw_search_laws.proofs.Backs.{contains_any, in_filter, from_filter, in_range}
use Rattle.hw_search_laws.proofs.Bounds.{rises_filter, few_members, written_few, few_reasons, few_numbers, live_few}
use Rattle.hw_search_laws.proofs.Citing.{Citing, cite_one, cites, same_problem}
use Rattle.hw_search_laws.proofs.LemmaTurn.{gone_problem}
use Rattle.hw_cert_lines.proofs.Pushed.{one_more}
use Rattle.hw_cert_lines.specs.Lines.{clause_of as clause_in, clauses_of}
use Rattle.hw_cert_lines.proofs.Deleted.{live_in as live_inside}
use Rattle.hw_cert_lines.proofs.Live.{lemmas_push, live_above}
use Rattle.hw_search_laws.proofs.Turned.{lemma_meets, few_for}

-- ---- one line

live_member : (before : List Line) (n : ℕ) → IsSome (live before n) → list_any (λ x. x == n) (live_numbers before) ≡ true
live_member before n h = in_filter (λ id. is_some (live before id)) (range_with_len 1 (clause_count before)) n h (in_range n (clause_count before) (live_above before n h) (live_inside before n h))

pub one_more_live : (f : Problem) (before : List Line) (line : Line) (clause : List Lit) → IsClauseLine line clause → length (live_numbers (before ++ line ∷ [])) ≤ length (live_numbers before) + 1
one_more_live f before line clause c =
    let bound : length (live_numbers (before ++ line ∷ [])) ≤ length ((clause_count before + 1) ∷ live_numbers before) = few_members ((clause_count before + 1) ∷ live_numbers before) (live_numbers (before ++ line ∷ [])) 1 (rises_filter (λ id. is_some (live (before ++ line ∷ []) id)) 1 (clause_count (before ++ line ∷ []))) (λ n e.
    let r = from_filter (λ id. is_some (live (before ++ line ∷ []) id)) (range_with_len 1 (clause_count (before ++ line ∷ []))) n e in
    elim (live_back f before line clause c n r.0) [
      | inl k ↦ or_right (clause_count before + 1 == n) (list_any (λ x. x == n) (live_numbers before)) (live_member before n k)
      | inr same ↦ or_left (clause_count before + 1 == n) (list_any (λ x. x == n) (live_numbers before)) (eq-eqb (clause_count before + 1) n (sym same))
    ]) in
    omega (arith, bound)

-- ---- where each live number is kept

abbrev Tight : Problem → List Line → Type 0
Tight f all = length (live_numbers all) ≤ length (lemmas_of all) + most_events f.ships f.slots

tight : (s : SearchModel) (before : List Line) → length s.written ≤ most_events s.problem.ships s.problem.slots → FitsOpen before s → LiveKept before s → Tight s.problem before
tight s before few fit kept =
    let bound : length (live_numbers before) ≤ length (kept_numbers s) = few_members (kept_numbers s) (live_numbers before) 1 (rises_filter (λ id. is_some (live before id)) 1 (clause_count before)) (λ n e.
    let r = from_filter (λ id. is_some (live before id)) (range_with_len 1 (clause_count before)) n e in
    contains_any (kept_numbers s) n (kept n r.0)) in
    let a = length-append (map (λ (one : Stored). one.number) s.stored) (filter_map (λ (w : Option ℕ). w) s.written) in
    let b = length-map s.stored (λ (one : Stored). one.number) in
    let c = written_few s.written in
    let d : length (lemmas_of before) ≡ length s.stored = ap length fit.lemmas ∙ length-map s.stored (λ (one : Stored). one.clause) in
    omega (arith, bound, a, b, c, d, few)

loose : (f : Problem) (all : List Line) → Tight f all → FewLive f all
loose f all t = omega (arith, t)

grow : (f : Problem) (all : List Line) (line : Line) (clause : List Lit) → IsClauseLine line clause → lemma_of line ≡ None → Tight f all → FewLive f (all ++ line ∷ [])
grow f all line clause c none t =
    let a = one_more_live f all line clause c in
    let b : length (lemmas_of (all ++ line ∷ [])) ≡ length (lemmas_of all) = ap length (same_lemmas all line none) in
    omega (arith, a, b, t)

more_lemma : (f : Problem) (all : List Line) (lemma : List Lit) (hints : List ℕ) → FewLive f all → FewLive f (all ++ lines.Lemma lemma hints ∷ [])
more_lemma f all lemma hints t =
    let a = one_more_live f all (lines.Lemma lemma hints) lemma (lemma_is lemma hints) in
    let b : length (lemmas_of (all ++ lines.Lemma lemma hints ∷ [])) ≡ length (lemmas_of all) + 1 = ap length (lemmas_push all (lines.Lemma lemma hints)) ∙ length-append (lemmas_of all) (lemma ∷ []) in
    omega (arith, a, b, t)

few_push : (f : Problem) (before xs : List Line) (line : Line) → FewLiveFrom f before xs → FewLive f ((before ++ xs) ++ line ∷ []) → FewLiveFrom f before (xs ++ line ∷ [])
few_push f before [] line h k = (subst (λ ys. FewLive f (ys ++ line ∷ [])) (append-nil before) k, tt)
few_push f before (x ∷ xs) line h k = (h.0, few_push f (before ++ x ∷ []) xs line h.1 (subst (λ ys. FewLive f (ys ++ line ∷ [])) (sym (append_assoc before (x ∷ []) xs)) k))

-- ---- the reasons

by_live : (s : SearchModel) (before : List Line) (c : Cited) (q : ℕ) (why : Option Why) (n : Option ℕ) → Tight s.problem (before ++ c.lines) → FewLiveFrom s.problem before c.lines → FewLiveFrom s.problem before (cite_by c q why n).lines
by_live s before c q None n t h = h
by_live s before c q (Some (whys.Lemma id clause)) n t h = h
by_live s before c q (Some (whys.Source source clause)) (Some n) t h = h
by_live s before c q (Some (whys.Source source clause)) None t h = few_push s.problem before c.lines (source_line c.search.problem source clause) h (grow s.problem (before ++ c.lines) (source_line c.search.problem source clause) clause (source_is c.search.problem source clause) (source_no_lemma c.search.problem source clause) t)
by_live s before c q (Some (whys.Priced clause)) (Some n) t h = h
by_live s before c q (Some (whys.Priced clause)) None t h = few_push s.problem before c.lines (lines.Priced clause) h (grow s.problem (before ++ c.lines) (lines.Priced clause) clause (priced_is clause) refl t)

tight_citing : (s : SearchModel) (before : List Line) (done : List ℕ) (c : Cited) → IsSearch s → Citing s before done c → Tight s.problem (before ++ c.lines)
tight_citing s before done c is k =
    let p = same_problem s before done c k in
    let few : length c.search.written ≤ most_events s.problem.ships s.problem.slots = omega (arith, k.long, (few_reasons s is).0) in
    subst (λ (f : Problem). Tight f (before ++ c.lines)) p (tight c.search (before ++ c.lines) (subst (λ (f : Problem). length c.search.written ≤ most_events f.ships f.slots) (sym p) few) k.fit k.kept)

all_live : (s : SearchModel) (before : List Line) (done places : List ℕ) (c : Cited) → IsSearch s → Citing s before done c → All (λ place. IsSome (reason_at s.trail place)) places → s.clause_lines + length done + length places < 2 ^ 32 → FewLiveFrom s.problem before c.lines
    → FewLiveFrom s.problem before (fold cite c places).lines
all_live s before done [] c is k some few h = h
all_live s before done (q ∷ places) c is k some few h =
    let one = cite_one s before done c q is k (All-head (λ place. IsSome (reason_at s.trail place)) q places some) (omega (arith, few)) in
    all_live s before (done ++ q ∷ []) places (cite c q) is one (All-tail (λ place. IsSome (reason_at s.trail place)) q places some) (omega (arith, few, length-append done (q ∷ [])))
    (by_live s before c q (why_at c.search.trail q) (written_at c.search q) (tight_citing s before done c is k) h)

-- ---- the conflict, and the lemma

conflict_live : (s : SearchModel) (before : List Line) (done : List ℕ) (c : Cited) (why : Why) → IsSearch s → Citing s before done c → FewLiveFrom s.problem before c.lines → FewLiveFrom s.problem before (cite_conflict c why).lines × FewLive s.problem (before ++ (cite_conflict c why).lines)
conflict_live s before done c (whys.Lemma id clause) is k h = (h, loose s.problem (before ++ c.lines) (tight_citing s before done c is k))
conflict_live s before done c (whys.Source source clause) is k h =
    let line = source_line c.search.problem source clause in
    let g = grow s.problem (before ++ c.lines) line clause (source_is c.search.problem source clause) (source_no_lemma c.search.problem source clause) (tight_citing s before done c is k) in
    (few_push s.problem before c.lines line h g, subst (λ xs. FewLive s.problem xs) (append_assoc before c.lines (line ∷ [])) g)
conflict_live s before done c (whys.Priced clause) is k h =
    let g = grow s.problem (before ++ c.lines) (lines.Priced clause) clause (priced_is clause) refl (tight_citing s before done c is k) in
    (few_push s.problem before c.lines (lines.Priced clause) h g, subst (λ xs. FewLive s.problem xs) (append_assoc before c.lines (lines.Priced clause ∷ [])) g)

pub lemma_live : (s : SearchModel) (before : List Line) (why : Why) (lemma : List Lit) (back : ℕ) (places : List ℕ) → IsSearch s → s.over ≡ false → s.lemmas < 100000 → FitsOpen before s → LiveKept before s → Learns s.trail (reason_clause why) lemma back places
    → FewLiveFrom s.problem before (lemma_lines (cite_conflict (cited s places) why) lemma)
lemma_live s before why lemma back places is over few fit kept learns =
    let n = few_numbers s is over few in
    let m = few_for s why lemma back places is learns in
    let start : Citing s before [] (record { search = s; lines = []; hints = [] }) = cites s before [] is fit kept (λ k d lt. absurd (omega (arith, lt))) (omega (arith, n)) in
    let k = cites s before places is fit kept learns.reasons (omega (arith, n, m)) in
    let h = all_live s before [] places (record { search = s; lines = []; hints = [] }) is start learns.reasons (omega (arith, n, m)) tt in
    let c = conflict_live s before places (cited s places) why is k h in
    let w = (cite_conflict (cited s places) why) in
    few_push s.problem before w.lines (lines.Lemma lemma w.hints) c.0 (more_lemma s.problem (before ++ w.lines) lemma w.hints c.1)

-- ---- and the deletion

delete_live : (f : Problem) (before written : List Line) (ids : List ℕ) → FewLiveFrom f before written → FewLive f ((before ++ written) ++ deletion ids) → FewLiveFrom f before (written ++ deletion ids)
delete_live f before written [] h k = subst (FewLiveFrom f before) (sym (append-nil written)) h
delete_live f before written (id ∷ ids) h k = few_push f before written (lines.Delete (id ∷ ids)) h k

pub turn_live : (s : SearchModel) (before : List Line) (why : Why) (lemma : List Lit) (back : ℕ) (places : List ℕ) → IsSearch s → s.over ≡ false → s.lemmas < 100000 → FitsOpen before s → LiveKept before s → IsConflict s why → 1 ≤ length (reason_clause why) → Learns s.trail (reason_clause why) lemma back places → 1 ≤ length lemma → (after : SearchModel) → after ≡ gone_back (with_lemma (cite_conflict (cited s places) why).search lemma) back → after.problem ≡ s.problem
    → FewLiveFrom s.problem before (lemma_lines (cite_conflict (cited s places) why) lemma ++ deletion (unkept (before ++ lemma_lines (cite_conflict (cited s places) why) lemma) after))
turn_live s before why lemma back places is over few fit kept k some learns literal after e p =
    let c = cite_conflict (cited s places) why in
    let m = subst (λ (u : SearchModel). LemmaMeets s before why lemma back places c u) (sym e) (lemma_meets s before why lemma back places is over few fit kept k some learns literal) in
    let all : List Line = (before ++ lemma_lines c lemma) ++ deletion (unkept (before ++ lemma_lines c lemma) after) in
    let t : Tight after.problem all = tight after all (few_reasons after m.search).0 m.fits m.kept in
    let end : FewLive s.problem all = loose s.problem all (subst (λ (f : Problem). Tight f all) p t) in
    delete_live s.problem before (lemma_lines c lemma) (unkept (before ++ lemma_lines c lemma) after) (lemma_live s before why lemma back places is over few fit kept learns) end

same_after : (s : SearchModel) (before : List Line) (done : List ℕ) (c : Cited) (why : Why) (lemma : List Lit) (back : ℕ) → Citing s before done c → (gone_back (with_lemma (cite_conflict c why).search lemma) back).problem ≡ s.problem
same_after s before done c (whys.Lemma id clause) lemma back k = gone_problem (with_lemma (cite_conflict c (whys.Lemma id clause)).search lemma) back ∙ same_problem s before done c k
same_after s before done c (whys.Source source clause) lemma back k = gone_problem (with_lemma (cite_conflict c (whys.Source source clause)).search lemma) back ∙ same_problem s before done c k
same_after s before done c (whys.Priced clause) lemma back k = gone_problem (with_lemma (cite_conflict c (whys.Priced clause)).search lemma) back ∙ same_problem s before done c k

pub conflict_only : (s : SearchModel) (before : List Line) (why : Why) → IsSearch s → FitsOpen before s → LiveKept before s → FewLiveFrom s.problem before (why_lines s.problem why)
conflict_only s before (whys.Lemma number clause) is fit kept = tt
conflict_only s before (whys.Source source clause) is fit kept = (grow s.problem before (source_line s.problem source clause) clause (source_is s.problem source clause) (source_no_lemma s.problem source clause) (tight s before (few_reasons s is).0 fit kept), tt)
conflict_only s before (whys.Priced clause) is fit kept = (grow s.problem before (lines.Priced clause) clause (priced_is clause) refl (tight s before (few_reasons s is).0 fit kept), tt)

table_back : (f : Problem) (before : List Line) (table : List ℕ) (n : ℕ) → IsSome (live (before ++ lines.Table table ∷ []) n) → IsSome (live before n)
table_back f before table n h = subst IsSome ((one_more f before (lines.Table table)).earlier n (inside n h) refl) h
  where
    inside : (n : ℕ) → IsSome (live (before ++ lines.Table table ∷ []) n) → n ≤ clause_count before
    inside n h = omega (arith, live_inside (before ++ lines.Table table ∷ []) n h, ap length (filter_map-append clause_in before (lines.Table table ∷ []) ∙ append-nil (clauses_of before)))

pub turn_lives : (s : SearchModel) (before : List Line) → IsSearch s → s.over ≡ false → s.lemmas < 100000 → FitsOpen before s → LiveKept before s → LiveTurn s before
turn_lives s before is over few fit kept = record {
  lemma = λ why lemma back places k some learns literal after e.
      let n = few_numbers s is over few in
      let m = few_for s why lemma back places is learns in
      let p : after.problem ≡ s.problem = ap (λ (x : SearchModel). x.problem) e ∙ same_after s before places (cited s places) why lemma back (cites s before places is fit kept learns.reasons (omega (arith, n, m))) in
      turn_live s before why lemma back places is over few fit kept k some learns literal after e p;
  last = λ why back places learns. lemma_live s before why [] back places is over few fit kept learns;
  conflict = λ why. conflict_only s before why is fit kept;
  table = λ table fits.
      (live_few (record s { best = Some table }) (before ++ lines.Table table ∷ []) 0 (few_reasons s is).0 fits (λ n h. inl (kept n (table_back s.problem before table n h))), tt);
}

-- ---- all lines

from_take : (f : Problem) (before more : List Line) → FewLive f before → FewLiveFrom f before more → (n : ℕ) → n ≤ length more → FewLive f (before ++ take n more)
from_take f before [] now h n le = let z : n ≡ 0 = omega (arith, le) in subst (λ (k : ℕ). FewLive f (before ++ take k [])) (sym z) (subst (FewLive f) (sym (append-nil before)) now)
from_take f before (x ∷ xs) now h zero le = subst (FewLive f) (sym (append-nil before)) now
from_take f before (x ∷ xs) now h (suc n) le = subst (FewLive f) (append_assoc before (x ∷ []) (take n xs)) (from_take f (before ++ x ∷ []) xs h.0 h.1 n (omega (arith, le)))

pub all_taken : (xs : List Line) → take (length xs) xs ≡ xs
all_taken [] = refl
all_taken (x ∷ xs) = ap (λ ys. x ∷ ys) (all_taken xs)

pub throughout : (f : Problem) (before more : List Line) → FewLiveThroughout f before → FewLiveFrom f before more → FewLiveThroughout f (before ++ more)
throughout f before more old new n le = elim (cases_lt (length before) n) [
  | inl past ↦
      let m : length before + (n - length before) ≡ n = omega (arith, past) in
      let now : FewLive f before = subst (FewLive f) (all_taken before) (old (length before) (omega arith)) in
      let up : n - length before ≤ length more = omega (arith, le, past, length-append before more) in
      subst (λ (k : ℕ). FewLive f (take k (before ++ more))) m (subst (FewLive f) (sym (take-append-add before more (n - length before))) (from_take f before more now new (n - length before) up))
  | inr here ↦ subst (FewLive f) (sym (take-append-le n before more here)) (old n here)
]

pub none_live : (f : Problem) → FewLiveThroughout f []
none_live f zero le = omega arith
none_live f (suc n) le = omega arith
