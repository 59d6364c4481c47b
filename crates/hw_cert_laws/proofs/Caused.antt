-- A line that is refused is wrong as its word says.
use Rattle.std.proofs.Common.{◌≡◌, ℕ, ◌+◌, ◌^◌, ◌≤◌, Bool, true, false, cond, List, Option, Some, None, find, IsSome, IfSome, IsSomeAnd, is_none, nat_lt, refl, sym, subst, inl}
use Rattle.std.proofs.lemmas.Bool.{ltb-false, not-true}
use Rattle.hw_model.specs.declared.lit.Lit.{Lit}
use Rattle.hw_model.specs.declared.source.Source.{Source}
use Rattle.hw_model.specs.declared.source.Source.TheVariants as sources
use Rattle.hw_model.specs.Problem.{Problem, IsTimetable}
use Rattle.hw_model.specs.Timetables.{cargo, beats, first_broken}
use Rattle.hw_model.specs.Refuting.{source_of}
use Rattle.hw_model.specs.RefutingComputed.{refutes}
use Rattle.hw_model.specs.Replay.{replay}
use Rattle.hw_model_laws.proofs.Broken.{permits_from, is_first_broken}
use Rattle.hw_model_laws.proofs.Permitted.{has_cargo}
use Rattle.hw_model_laws.proofs.Tested.{tests}
use Rattle.hw_cert_lines.specs.declared.check.CheckWord.TheVariants as words
use Rattle.hw_cert_lines.specs.declared.line.Line.{Line}
use Rattle.hw_cert_lines.specs.declared.line.Line.TheVariants as lines
use Rattle.hw_cert_lines.specs.Lines.{clause_of, clause_count, live, best_of, is_closed}
use Rattle.hw_cert_lines.specs.Valid.{LineFits, denied_room}
use Rattle.hw_cert_lines.specs.Kept.{kept_of}
use Rattle.hw_cert_lines.specs.Refusals.{refusal, claim_refusal, table_refusal, source_refusal, named, lemma_refusal, is_past, refused, delete_refusal}
use Rattle.hw_cert_lines.proofs.Keeping.{same_dead, same_named}
use Rattle.hw_cert_laws.specs.Causes.{LineExplains, Unrefuted, Unshown, CanJudge, Wrong}
use Rattle.hw_cert_laws.proofs.Unpriced.{Caused, toll_cause, tariff_cause, priced_cause, bound_cause}
use Rattle.hw_cert_laws.proofs.Hinted.{lemma_cause, delete_cause}

-- ---- tables

not_above : (c : ℕ) (best : Option ℕ) → beats c best ≡ false → IsSomeAnd best (λ b. c ≤ b)
not_above c None e = absurd cc
not_above c (Some b) e = ltb-false _ _ e

table_cause : (f : Problem) (before : List Line) (table : List ℕ) → IsTimetable f table → Caused f before (lines.Table table) (table_refusal (is_none (first_broken f table)) (cargo f table) (best_of f before))
table_cause f before table listed = by (first_broken f table) refl (cargo f table) refl
  where
    weighed : (c : ℕ) (b : Bool) → first_broken f table ≡ None → cargo f table ≡ Some c → beats c (best_of f before) ≡ b → Caused f before (lines.Table table) (cond b None (refused words.Worse))
    weighed c true whole e less = tt
    weighed c false whole e less = (
      refl,
      record {
        table = table;
        is = refl;
        permitted = permits_from f table listed whole;
        worse = subst (λ o. IsSomeAnd o (λ c. IsSomeAnd (best_of f before) (λ best. c ≤ best))) (sym e) (not_above c (best_of f before) less);
      },
    )

    by : (o : Option ℕ) → first_broken f table ≡ o → (c : Option ℕ) → cargo f table ≡ c → Caused f before (lines.Table table) (table_refusal (is_none o) c (best_of f before))
    by (Some n) broken c e = (refl, record { table = table; is = refl; restriction = n; broken = is_first_broken f table n broken })
    by None whole None e =
        let some : IsSome (cargo f table) = has_cargo f table (permits_from f table listed whole) in
        absurd (none_some (cargo f table) e some)
      where
        none_some : (o : Option ℕ) → o ≡ None → IsSome o → ⊥
        none_some None e h = cc
        none_some (Some c) e h = cc
    by None whole (Some c) e = weighed c (beats c (best_of f before)) whole e refl

-- ---- sources

source_cause : (f : Problem) (before : List Line) (line : Line) (source : Source) (clause : List Lit) → LineExplains f line source clause → (Unrefuted f before line → Unshown f before line) → Caused f before line (source_refusal f (best_of f before) source clause)
source_cause f before line source clause explains unshown = by (refutes f source (best_of f before) (denied_room f clause)) refl
  where
    by : (b : Bool) → refutes f source (best_of f before) (denied_room f clause) ≡ b → Caused f before line (cond b None (refused words.Refute))
    by true e = tt
    by false e = (
      refl,
      unshown (record {
        source = source;
        clause = clause;
        explains = explains;
        leaves = λ h.
            let does = tests f source (best_of f before) (denied_room f clause) h in
            absurd cc;
      }),
    )

-- ---- any line

claim_cause : (f : Problem) (before : List Line) (line : Line) → LineFits f line → CanJudge f before line → Caused f before line (claim_refusal f (kept_of f before) line)
claim_cause f before (lines.Table table) fits can = table_cause f before table fits
claim_cause f before (lines.Explain n clause) fits can = source_cause f before (lines.Explain n clause) (source_of f n) clause (refl, refl) (λ h. h)
claim_cause f before (lines.Order v w x clause) fits can = source_cause f before (lines.Order v w x clause) (sources.Order v w x) clause (refl, refl) (λ h. h)
claim_cause f before (lines.Goal clause) fits can = source_cause f before (lines.Goal clause) sources.Goal clause (refl, refl) (λ h. h)
claim_cause f before (lines.Lemma clause hints) fits can =
    subst (λ o. Caused f before (lines.Lemma clause hints) (lemma_refusal o hints (replay (denied_room f clause) (named (kept_of f before).live hints)))) (sym (same_dead f before hints))
    (subst (λ cs. Caused f before (lines.Lemma clause hints) (lemma_refusal (find (λ id. is_none (live before id)) hints) hints (replay (denied_room f clause) cs))) (sym (same_named f before hints)) (lemma_cause f before clause hints))
claim_cause f before (lines.Delete ids) fits can = subst (λ o. Caused f before (lines.Delete ids) (delete_refusal o)) (sym (same_dead f before ids)) (delete_cause f before ids)
claim_cause f before (lines.Toll toll) fits can = toll_cause f before (lines.Toll toll) toll refl
claim_cause f before (lines.Tariff tariff) fits can = tariff_cause f before tariff
claim_cause f before (lines.Priced clause) fits can = priced_cause f before clause can.0 can.1
claim_cause f before (lines.Bound bound) fits can = bound_cause f before bound can.0 can.1

past_last : (count : ℕ) (o : Option (List Lit)) → is_past (count + 1) o ≡ true → IsSomeAnd o (λ clause. 2 ^ 32 ≤ count + 1)
past_last count None e = absurd cc
past_last count (Some clause) e = ltb-false _ _ (not-true (nat_lt (count + 1) (2 ^ 32)) e)

pub caused : (f : Problem) (before : List Line) (line : Line) → LineFits f line → CanJudge f before line → IfSome (refusal f before line) (λ why. Wrong f before line why.word why.hint)
caused f before line fits can = by (is_closed before) refl (is_past (clause_count before + 1) (clause_of line)) refl
  where
    by : (closed : Bool) → is_closed before ≡ closed → (past : Bool) → is_past (clause_count before + 1) (clause_of line) ≡ past
        → Caused f before line (cond closed (refused words.Ended) (cond past (refused words.Many) (claim_refusal f (kept_of f before) line)))
    by true e past d = (refl, e)
    by false e true d = (refl, inl (past_last (clause_count before) (clause_of line) d))
    by false e false d = claim_cause f before line fits can
