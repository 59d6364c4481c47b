-- A line is valid exactly where no cause against it is found.
use Rattle.std.proofs.Common.{◌≡◌, ℕ, ◌+◌, ◌^◌, ◌<◌, Bool, true, false, cond, List, Option, Some, None, length, All, IfSome, nat_lt, refl, sym, ap, ◌∙◌}
use Rattle.std.proofs.lemmas.Bool.{ltb-true, lt-ltb, not-false, not_from_true}
use Rattle.hw_model.specs.declared.lit.Lit.{Lit}
use Rattle.hw_model.specs.declared.source.Source.{Source}
use Rattle.hw_model.specs.declared.source.Source.TheVariants as sources
use Rattle.hw_model.specs.Problem.{Problem}
use Rattle.hw_model.specs.Limits.{IsFlat}
use Rattle.hw_model.specs.Timetables.{cargo, first_broken}
use Rattle.hw_model.specs.Refuting.{Refutes, source_of}
use Rattle.hw_model.specs.Replay.{replay}
use Rattle.hw_model_laws.proofs.Broken.{permits_from, from_permits}
use Rattle.hw_model_laws.proofs.Tested.{tested, tests}
use Rattle.hw_price_laws.specs.Judged.{is_toll}
use Rattle.hw_price_laws.specs.Tolls.{IsToll}
use Rattle.hw_price_laws.proofs.Judging.{judged, judges}
use Rattle.hw_cert_lines.specs.declared.check.CheckWord.TheVariants as words
use Rattle.hw_cert_lines.specs.declared.check.Refusal.{Refusal}
use Rattle.hw_cert_lines.specs.declared.line.Line.{Line}
use Rattle.hw_cert_lines.specs.declared.line.Line.TheVariants as lines
use Rattle.hw_cert_lines.specs.Lines.{clause_of, clause_count, live, best_of, is_closed}
use Rattle.hw_cert_lines.specs.Tolled.{is_plain, tolls_of, tariff_of, bound_of}
use Rattle.hw_cert_lines.specs.Valid.{LineFits, Holds, ValidAfter, Valid, denied_room}
use Rattle.hw_cert_lines.specs.Kept.{kept_of}
use Rattle.hw_cert_lines.specs.Refusals.{refusal, claim_refusal, source_refusal, first_dead, is_past, refused, delete_refusal, tariff_refusal}
use Rattle.hw_cert_lines.proofs.Keeping.{same_dead, same_named}
use Rattle.hw_cert_lines.proofs.Priced.{valid_tolls}
use Rattle.hw_cert_laws.specs.Causes.{CanJudge}
use Rattle.hw_cert_laws.proofs.Priced.{toll_from, from_toll, tariff_from, known_from, from_known, priced_from, from_priced, bound_from, from_bound}
use Rattle.hw_cert_laws.proofs.Tested.{table_from, from_table, source_from, all_there, none_missing, lemma_from, from_lemma, delete_from}

none_of_two : (a b : Bool) (x y : Refusal) (z : Option Refusal) → cond a (Some x) (cond b (Some y) z) ≡ None → (a ≡ false) × (b ≡ false) × (z ≡ None)
none_of_two true b x y z e = absurd cc
none_of_two false true x y z e = absurd cc
none_of_two false false x y z e = (refl, refl, e)

two_false : (a b : Bool) (x y : Refusal) (z : Option Refusal) → a ≡ false → b ≡ false → z ≡ None → cond a (Some x) (cond b (Some y) z) ≡ None
two_false true b x y z p q e = absurd cc
two_false false true x y z p q e = absurd cc
two_false false false x y z p q e = e

-- ---- what is tested exactly

pub can_judge : (f : Problem) (before : List Line) (line : Line) → IsFlat f → All (IsToll f) (tolls_of before) → CanJudge f before line
can_judge f before (lines.Table table) flat all = tt
can_judge f before (lines.Explain n clause) flat all = tt
can_judge f before (lines.Order v w x clause) flat all = tt
can_judge f before (lines.Goal clause) flat all = tt
can_judge f before (lines.Lemma clause hints) flat all = tt
can_judge f before (lines.Delete ids) flat all = tt
can_judge f before (lines.Toll toll) flat all = tt
can_judge f before (lines.Tariff tariff) flat all = tt
can_judge f before (lines.Priced clause) flat all = (flat, all)
can_judge f before (lines.Bound bound) flat all = (flat, all)

pub valid_judge : (f : Problem) (before : List Line) (line : Line) → IsFlat f → Valid f before → CanJudge f before line
valid_judge f before line flat valid = can_judge f before line flat (valid_tolls f before valid).tolls

pub plain_judge : (f : Problem) (before : List Line) (line : Line) → is_plain line ≡ true → CanJudge f before line
plain_judge f before (lines.Table table) plain = tt
plain_judge f before (lines.Explain n clause) plain = tt
plain_judge f before (lines.Order v w x clause) plain = tt
plain_judge f before (lines.Goal clause) plain = tt
plain_judge f before (lines.Lemma clause hints) plain = tt
plain_judge f before (lines.Delete ids) plain = tt
plain_judge f before (lines.Toll toll) plain = absurd cc
plain_judge f before (lines.Tariff tariff) plain = absurd cc
plain_judge f before (lines.Priced clause) plain = absurd cc
plain_judge f before (lines.Bound bound) plain = absurd cc

-- ---- claims

-- what is claimed after these lines, by what is kept of them
abbrev claimed : Problem → List Line → Line → Option Refusal
claimed f before line = claim_refusal f (kept_of f before) line

claim_from : (f : Problem) (before : List Line) (line : Line) → LineFits f line → CanJudge f before line → claimed f before line ≡ None → Holds f before line
claim_from f before (lines.Table table) fits can e =
    let parts = table_from (first_broken f table) (cargo f table) (best_of f before) e in
    (permits_from f table fits parts.0, parts.1)
claim_from f before (lines.Explain n clause) fits can e = tested f (source_of f n) (best_of f before) (denied_room f clause) (source_from _ e)
claim_from f before (lines.Order v w x clause) fits can e = tested f (sources.Order v w x) (best_of f before) (denied_room f clause) (source_from _ e)
claim_from f before (lines.Goal clause) fits can e = tested f sources.Goal (best_of f before) (denied_room f clause) (source_from _ e)
claim_from f before (lines.Lemma clause hints) fits can e =
    let parts = lemma_from (first_dead (kept_of f before).live hints) hints _ e in
    (all_there (live before) hints (sym (same_dead f before hints) ∙ parts.0), ap (replay (denied_room f clause)) (sym (same_named f before hints)) ∙ parts.1)
claim_from f before (lines.Delete ids) fits can e = all_there (live before) ids (sym (same_dead f before ids) ∙ delete_from _ e)
claim_from f before (lines.Toll toll) fits can e =
    let parts = toll_from (nat_lt (length (tolls_of before)) 10_000) (is_toll f toll) e in
    (ltb-true _ _ parts.0, judged f toll parts.1)
claim_from f before (lines.Tariff tariff) fits can e = known_from (length (tolls_of before)) tariff.dues (tariff_from _ e)
claim_from f before (lines.Priced clause) fits can e = priced_from f (tolls_of before) (best_of f before) clause (tariff_of before) can.0 can.1 e
claim_from f before (lines.Bound bound) fits can e = bound_from f before bound (bound_of before) (tariff_of before) can.0 can.1 e

source_holds : (f : Problem) (best : Option ℕ) (source : Source) (clause : List Lit) → Refutes f source best (denied_room f clause) → source_refusal f best source clause ≡ None
source_holds f best source clause h = ap (λ b. cond b None (refused words.Refute)) (tests f source best (denied_room f clause) h)

from_claim : (f : Problem) (before : List Line) (line : Line) → CanJudge f before line → Holds f before line → claimed f before line ≡ None
from_claim f before (lines.Table table) can h = from_table (first_broken f table) (cargo f table) (best_of f before) (from_permits f table h.0) h.1
from_claim f before (lines.Explain n clause) can h = source_holds f (best_of f before) (source_of f n) clause h
from_claim f before (lines.Order v w x clause) can h = source_holds f (best_of f before) (sources.Order v w x) clause h
from_claim f before (lines.Goal clause) can h = source_holds f (best_of f before) sources.Goal clause h
from_claim f before (lines.Lemma clause hints) can h = from_lemma (first_dead (kept_of f before).live hints) hints _ (same_dead f before hints ∙ none_missing (live before) hints h.0) (ap (replay (denied_room f clause)) (same_named f before hints) ∙ h.1)
from_claim f before (lines.Delete ids) can h = ap delete_refusal (same_dead f before ids ∙ none_missing (live before) ids h)
from_claim f before (lines.Toll toll) can h = from_toll (nat_lt (length (tolls_of before)) 10_000) (is_toll f toll) (lt-ltb _ _ h.0) (judges f toll h.1)
from_claim f before (lines.Tariff tariff) can h = ap tariff_refusal (from_known (length (tolls_of before)) tariff.dues h)
from_claim f before (lines.Priced clause) can h = from_priced f (tolls_of before) (best_of f before) clause (tariff_of before) can.0 can.1 h
from_claim f before (lines.Bound bound) can h = from_bound f before bound (bound_of before) (tariff_of before) can.0 can.1 h.0 h.1

-- ---- numbers

numbered_from : (count : ℕ) (o : Option (List Lit)) → is_past (count + 1) o ≡ false → IfSome o (λ clause. count + 1 < 2 ^ 32)
numbered_from count None e = tt
numbered_from count (Some clause) e = ltb-true _ _ (not-false (nat_lt (count + 1) (2 ^ 32)) e)

from_numbered : (count : ℕ) (o : Option (List Lit)) → IfSome o (λ clause. count + 1 < 2 ^ 32) → is_past (count + 1) o ≡ false
from_numbered count None h = refl
from_numbered count (Some clause) h = not_from_true (nat_lt (count + 1) (2 ^ 32)) (lt-ltb _ _ h)

pub valid_from : (f : Problem) (before : List Line) (line : Line) → LineFits f line → CanJudge f before line → refusal f before line ≡ None → ValidAfter f before line
valid_from f before line fits can e =
    let parts = none_of_two (is_closed before) (is_past (clause_count before + 1) (clause_of line)) _ _ _ e in
    record { goes_on = parts.0; numbered = numbered_from (clause_count before) (clause_of line) parts.1; claim = claim_from f before line fits can parts.2 }

pub from_valid : (f : Problem) (before : List Line) (line : Line) → LineFits f line → CanJudge f before line → ValidAfter f before line → refusal f before line ≡ None
from_valid f before line fits can h = two_false (is_closed before) (is_past (clause_count before + 1) (clause_of line)) _ _ _ h.goes_on (from_numbered (clause_count before) (clause_of line) h.numbered) (from_claim f before line can h.claim)
