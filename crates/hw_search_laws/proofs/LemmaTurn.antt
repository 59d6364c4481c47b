-- A lemma with its reasons, its conflict and the deletion after it: valid, lean, new, and fitting.
use Rattle.std.proofs.Common.{◌≡◌, ℕ, ◌+◌, ◌^◌, ◌<◌, ◌≤◌, Bool, true, false, cond, List, [], ◌∷◌, ◌++◌, None, length, All, IsSome, refl, sym, ap, ◌∙◌, subst, arith, append-nil, append_assoc}
use Rattle.std.specs.Prelude.{AllPairs}
use Rattle.std.specs.List.Sorted.{IsStrictlyIncreasing}
use Rattle.std.proofs.lemmas.Map.Keys.{sorted_from_strictly_increasing}
use Rattle.std.proofs.lemmas.Map.Views.{length-le_from_below}
use Rattle.std.proofs.lemmas.List.Elements.{All-push, All-weaker}
use Rattle.hw_model.specs.declared.lit.Lit.{Lit}
use Rattle.hw_model.specs.Rooms.{RoomWithin}
use Rattle.hw_cert_lines.specs.declared.line.Line.{Line}
use Rattle.hw_cert_lines.specs.declared.line.Line.TheVariants as lines
use Rattle.hw_cert_lines.specs.Tolled.{is_plain, tariff_of}
use Rattle.hw_cert_lines.specs.Lines.{clause_count}
use Rattle.hw_cert_lines.specs.Valid.{LineFits, ValidFrom, denied_room}
use Rattle.hw_cert_lines.specs.Lemmas.{lemmas_of, IsNew, LeanFrom}
use Rattle.hw_cert_lines.proofs.Live.{lemmas_push}
use Rattle.hw_cert_laws.proofs.Numbered.{count_append}
use Rattle.hw_trail_laws.specs.declared.event.Why.{Why}
use Rattle.hw_trail_laws.specs.Trails.{TrailModel, reason_clause, IsTrail, most_events}
use Rattle.hw_trail_laws.specs.Learning.{reason_at, Learns}
use Rattle.hw_trail_laws.proofs.Many.{few_events}
use Rattle.hw_search_laws.specs.Searches.{SearchModel, IsSearch, FitsOpen, LiveKept, lemmas_in}
use Rattle.hw_search_laws.specs.Turns.{Cited, with_lemma, to_level, restart_is_due, gone_back, unkept, WritesWell}
use Rattle.hw_cert_laws.specs.Renewing.{deletion}
use Rattle.hw_search_laws.proofs.Lines.{lemma_open, same_lemmas}
use Rattle.hw_search_laws.proofs.Backs.{back_open, deleted_open, deleted_kept, nothing_kept, deletion_valid}
use Rattle.hw_search_laws.proofs.Holds.{Writes, lemma_writes, valid_push, lean_push, lemmas_new, top_low}
use Rattle.hw_search_laws.proofs.Citing.{Prepared, Wrote, wrote, reason_why, why_inside}

-- ---- few reasons

reason_places : (t : TrailModel) (places : List ℕ) → All (λ place. IsSome (reason_at t place)) places → All (λ place. place < length t.events) places
reason_places t places h = All-weaker (λ place. IsSome (reason_at t place)) (λ place. place < length t.events) (λ q k. let w = reason_why t q k in why_inside t q w.0 w.1) places h

pub few_places : (t : TrailModel) → IsTrail t → (places : List ℕ) → IsStrictlyIncreasing places → All (λ place. IsSome (reason_at t place)) places → length places ≤ most_events t.ships t.slots
few_places t is places rises some =
    let a : length places ≤ length t.events = length-le_from_below (length t.events) places (sorted_from_strictly_increasing places rises) (reason_places t places some) in
    omega (arith, a, few_events t is)

-- ---- counting clause lines

-- ---- what is written up to the lemma

abbrev lemma_lines : Cited → List Lit → List Line
lemma_lines c lemma = c.lines ++ lines.Lemma lemma c.hints ∷ []

pub record LemmaWritten (s : SearchModel) (before : List Line) (lemma : List Lit) (places : List ℕ) (c : Cited) : Type 0 where
  pub plain : tariff_of before ≡ None → All (λ line. is_plain line ≡ true) (lemma_lines c lemma)
  pub shaped : All (LineFits s.problem) (lemma_lines c lemma)
  pub valid : ValidFrom s.problem before (lemma_lines c lemma)
  pub lean : LeanFrom s.problem before (lemma_lines c lemma)
  pub lemmas : lemmas_of (before ++ lemma_lines c lemma) ≡ lemmas_in s ++ lemma ∷ []
  pub new : IsNew s.problem (before ++ lemma_lines c lemma)
  pub few : clause_count (lemma_lines c lemma) ≤ length places + 2
  pub search_lines : c.search.clause_lines + 1 ≤ s.clause_lines + length places + 2

pub lemma_written : (s : SearchModel) (before : List Line) (why : Why) (lemma : List Lit) (back : ℕ) (places : List ℕ) (c : Cited) → IsSearch s → FitsOpen before s → Prepared s before places (reason_clause why) c → Learns s.trail (reason_clause why) lemma back places → s.clause_lines + length places + 2 < 2 ^ 32 → LemmaWritten s before lemma places c
lemma_written s before why lemma back places c is fit p learns few =
    let line = lines.Lemma lemma c.hints in
    let w : Writes s.problem (before ++ c.lines) line = lemma_writes s (before ++ c.lines) (reason_clause why) lemma back places c.hints is.same_ships is.same_slots learns p.hints p.alive p.fit.none_empty (omega (arith, few, p.few, p.fit.count)) in
    let all : Wrote s.problem before c.lines line = wrote s.problem before c.lines line p.plain p.shaped p.valid p.lean w in
    let e : (before ++ c.lines) ++ line ∷ [] ≡ before ++ lemma_lines c lemma = append_assoc before c.lines (line ∷ []) in
    let same : lemmas_in c.search ≡ lemmas_in s = ap lemmas_in p.same in
    let ls : lemmas_of (before ++ lemma_lines c lemma) ≡ lemmas_in s ++ lemma ∷ [] = ap lemmas_of (sym e) ∙ lemmas_push (before ++ c.lines) line ∙ ap (λ xs. xs ++ lemma ∷ []) (p.fit.lemmas ∙ same) in
    record {
      plain = all.plain;
      shaped = all.shaped;
      valid = all.valid;
      lean = all.lean;
      lemmas = ls;
      new = subst (AllPairs (λ earlier later. RoomWithin (denied_room s.problem later) (denied_room s.problem earlier) → ⊥)) (sym ls) (lemmas_new s is.trail is.same_ships is.same_slots is.quiet_below is.clauses is.some_literal is.new (reason_clause why) lemma back places learns (top_low s.trail is.trail (reason_clause why)));
      few =
          let a = count_append before c.lines in
          let b = count_append c.lines (line ∷ []) in
          let one : clause_count (line ∷ []) ≡ 1 = refl in
          omega (arith, a, b, one, p.fit.count, fit.count, p.few);
      search_lines = omega (arith, p.few);
    }

-- ---- going back

gone_open : (before : List Line) (u : SearchModel) (back : ℕ) → IsTrail u.trail → FitsOpen before u → FitsOpen before (gone_back u back)
gone_open before u back is fit = by (restart_is_due u)
  where
    by : (b : Bool) → FitsOpen before (cond b (record (to_level u 0) { restarts = u.restarts + 1; since = 0 }) (record (to_level u back) { since = u.since + 1 }))
    by true = back_open before u (record (to_level u 0) { restarts = u.restarts + 1; since = 0 }) 0 is refl refl refl refl refl refl fit
    by false = back_open before u (record (to_level u back) { since = u.since + 1 }) back is refl refl refl refl refl refl fit

-- ---- and the deletion

pub record LemmaDone (s : SearchModel) (before all : List Line) (after : SearchModel) : Type 0 where
  pub well : WritesWell s.problem before all
  pub fits : FitsOpen (before ++ all) after
  pub kept : LiveKept (before ++ all) after

pub gone_problem : (u : SearchModel) (back : ℕ) → (gone_back u back).problem ≡ u.problem
gone_problem u back = by (restart_is_due u)
  where
    by : (b : Bool) → (cond b (record (to_level u 0) { restarts = u.restarts + 1; since = 0 }) (record (to_level u back) { since = u.since + 1 })).problem ≡ u.problem
    by true = refl
    by false = refl

deleted : (s : SearchModel) (before written : List Line) (after : SearchModel) (ids : List ℕ) → unkept (before ++ written) after ≡ ids → (tariff_of before ≡ None → All (λ line. is_plain line ≡ true) written) → All (LineFits s.problem) written → ValidFrom s.problem before written → LeanFrom s.problem before written → IsNew s.problem (before ++ written) → FitsOpen (before ++ written) after → LemmaDone s before (written ++ deletion ids) after
deleted s before written after [] e p a v l n fit =
    let same : written ++ [] ≡ written = append-nil written in
    subst (λ xs. LemmaDone s before xs after) (sym same) (record {
      well = record { plain = p; fit = a; valid = v; lean = l; new = λ old. n };
      fits = fit;
      kept = nothing_kept (before ++ written) after e;
    })
deleted s before written after (id ∷ ids) e p a v l n fit =
    let line = lines.Delete (id ∷ ids) in
    let d = deletion_valid s.problem (before ++ written) after id ids e fit.none_empty in
    let assoc : (before ++ written) ++ line ∷ [] ≡ before ++ (written ++ line ∷ []) = append_assoc before written (line ∷ []) in
    record {
      well = record {
        plain = λ none. All-push (λ line. is_plain line ≡ true) written line (p none) refl;
        fit = All-push (LineFits s.problem) written line a d.0;
        valid = valid_push s.problem before written line v d.1;
        lean = lean_push s.problem before written line l tt;
        new = λ old. subst (IsNew s.problem) assoc (subst (AllPairs (λ earlier later. RoomWithin (denied_room s.problem later) (denied_room s.problem earlier) → ⊥)) (sym (same_lemmas (before ++ written) line refl)) n);
      };
      fits = subst (λ xs. FitsOpen xs after) assoc (deleted_open (before ++ written) after (id ∷ ids) e fit);
      kept = subst (λ xs. LiveKept xs after) assoc (deleted_kept (before ++ written) after (id ∷ ids) e);
    }

-- the whole of a turn that answers Lemma
pub lemma_done : (s : SearchModel) (before : List Line) (why : Why) (lemma : List Lit) (back : ℕ) (places : List ℕ) (c : Cited) → IsSearch s → FitsOpen before s → Prepared s before places (reason_clause why) c → Learns s.trail (reason_clause why) lemma back places → 1 ≤ length lemma → s.clause_lines + length places + 2 < 2 ^ 32
    → LemmaDone s before (lemma_lines c lemma ++ deletion (unkept (before ++ lemma_lines c lemma) (gone_back (with_lemma c.search lemma) back))) (gone_back (with_lemma c.search lemma) back)
lemma_done s before why lemma back places c is fit p learns some few =
    let w = lemma_written s before why lemma back places c is fit p learns few in
    let u = with_lemma c.search lemma in
    let line = lines.Lemma lemma c.hints in
    let e : (before ++ c.lines) ++ line ∷ [] ≡ before ++ lemma_lines c lemma = append_assoc before c.lines (line ∷ []) in
    let stands : FitsOpen (before ++ lemma_lines c lemma) u = subst (λ xs. FitsOpen xs u) e (lemma_open c.search (before ++ c.lines) lemma c.hints p.fit some) in
    let trail : IsTrail u.trail = subst IsTrail (sym (ap (λ (x : SearchModel). x.trail) p.same)) is.trail in
    deleted s before (lemma_lines c lemma) (gone_back u back) (unkept (before ++ lemma_lines c lemma) (gone_back u back)) refl w.plain w.shaped w.valid w.lean w.new (gone_open (before ++ lemma_lines c lemma) u back trail stands)
