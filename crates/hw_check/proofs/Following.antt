-- What a checker keeps says all that later lines need of those before them.
use Rattle.std.proofs.Common.{◌≡◌, ℕ, ◌<◌, Bool, true, false, cond, List, [], ◌∷◌, ◌++◌, Option, Some, None, length, Result, Ok, Err, IfOk, IfErr, IfSome, All, sym, ap, ◌∙◌, subst}
use Rattle.std.proofs.lemmas.Bool.{ltb-true}
use Rattle.std.proofs.lemmas.List.{length-map}
use Rattle.std.proofs.lemmas.List.Elements.{All-nil, All-cons, All-append}
use Rattle.hw_model.specs.Problem.{Problem}
use Rattle.hw_model.specs.Limits.{IsFlat}
use Rattle.hw_price_laws.specs.declared.toll.Toll.{Toll}
use Rattle.hw_price_laws.specs.Tolls.{IsToll}
use Rattle.hw_price_laws.proofs.Judging.{judged}
use Rattle.hw_price_tests.specs.PriceStates.{PriceState}
use Rattle.hw_cert_lines.specs.declared.check.Refusal.{Refusal}
use Rattle.hw_cert_lines.specs.declared.line.Line.{Line}
use Rattle.hw_cert_lines.specs.declared.line.Line.TheVariants as lines
use Rattle.hw_cert_lines.specs.Lines.{clause_of, live_numbers}
use Rattle.hw_cert_lines.specs.Tolled.{bound_of}
use Rattle.hw_cert_lines.specs.Valid.{LineFits, ValidAfter, Valid, verdict, verdict_by}
use Rattle.hw_cert_lines.specs.Kept.{NumberedClause, Kept, kept_of, kept_after}
use Rattle.hw_cert_lines.specs.declared.check.CheckWord.TheVariants as words
use Rattle.hw_cert_lines.specs.Refusals.{refused, is_past, claim_refusal, refusal, kept_refusal}
use Rattle.hw_cert_lines.proofs.Deleted.{valid_deletes}
use Rattle.hw_cert_lines.proofs.Keeping as keeping
use Rattle.hw_cert_lines.proofs.Priced.{are_tolls}
use Rattle.hw_cert_lines.proofs.Live.{valid_push}
use Rattle.hw_cert_laws.specs.Laws.{IsBound}
use Rattle.hw_cert_laws.proofs.Bounded.{bounds}
use Rattle.hw_cert_laws.proofs.Priced.{toll_from}
use Rattle.hw_cert_laws.proofs.Refused.{can_judge, valid_from}
use Rattle.hw_check.specs.States.{CheckState, ClauseStore, kept_in}
use Rattle.hw_check.specs.declared.stop.CheckStop.{CheckStop}
use Rattle.hw_check.specs.declared.stop.CheckStop.TheVariants as stops
use Rattle.hw_check.specs.Follows.{CheckerFollows, CheckerAnswers, Stops}

-- a line that has a number and follows no end is refused by its own claim alone
pub claimed : (f : Problem) (kept : Kept) (line : Line) → kept.closed ≡ false → is_past kept.next (clause_of line) ≡ false → kept_refusal f kept line ≡ claim_refusal f kept line
claimed f kept line closed past =
    ap (λ b. cond b (refused words.Ended) (cond (is_past kept.next (clause_of line)) (refused words.Many) (claim_refusal f kept line))) closed
    ∙ ap (λ b. cond b (refused words.Many) (claim_refusal f kept line)) past

-- the same by the parts that a checker keeps
pub open_claim : (f : Problem) (store : ClauseStore) (prices : PriceState) (best : Option ℕ) (closed : Bool) (line : Line) → closed ≡ false → is_past store.next (clause_of line) ≡ false → claim_refusal f (kept_in store prices best false) line ≡ kept_refusal f (kept_in store prices best closed) line
open_claim f store prices best closed line goes_on past = sym (claimed f (kept_in store prices best closed) line goes_on past ∙ ap (λ b. claim_refusal f (kept_in store prices best b) line) goes_on)

-- what a line claims holds where the line isn't refused
claim_none : (f : Problem) (kept : Kept) (line : Line) → kept_refusal f kept line ≡ None → claim_refusal f kept line ≡ None
claim_none f kept line e = last kept.closed (is_past kept.next (clause_of line)) _ _ _ e
  where
    last : (a b : Bool) (x y : Refusal) (z : Option Refusal) → cond a (Some x) (cond b (Some y) z) ≡ None → z ≡ None
    last true b x y z e = absurd cc
    last false true x y z e = absurd cc
    last false false x y z e = e

-- what isn't refused as a toll is one, and there are not too many before
pub toll_declared : (f : Problem) (kept : Kept) (toll : Toll) → kept_refusal f kept (lines.Toll toll) ≡ None → (length kept.tolls < 10_000) × IsToll f toll
toll_declared f kept toll e =
    let parts = toll_from _ _ (claim_none f kept (lines.Toll toll) e) in
    (ltb-true _ _ parts.0, judged f toll parts.1)

pub followed_refusal : (c : CheckState) (before : List Line) (line : Line) → CheckerFollows c before → refusal c.problem before line ≡ kept_refusal c.problem c.kept line
followed_refusal c before line follows = ap (λ kept. kept_refusal c.problem kept line) (sym follows.kept)

valid_line : (c : CheckState) (before : List Line) (line : Line) → IsFlat c.problem → CheckerFollows c before → LineFits c.problem line → kept_refusal c.problem c.kept line ≡ None → ValidAfter c.problem before line
valid_line c before line flat follows fits none = valid_from c.problem before line fits (can_judge c.problem before line flat (are_tolls c.problem before follows.valid).each) (followed_refusal c before line follows ∙ none)

followed_line : (c next : CheckState) (before : List Line) (line : Line) → IsFlat c.problem → CheckerFollows c before → LineFits c.problem line → kept_refusal c.problem c.kept line ≡ None → next.problem ≡ c.problem → next.kept ≡ kept_after c.problem c.kept line → CheckerFollows next (before ++ line ∷ [])
followed_line c next before line flat follows fits none same after =
    let valid : Valid c.problem (before ++ line ∷ []) = valid_push c.problem before [] line follows.valid (valid_line c before line flat follows fits none) in
    let fit : All (LineFits c.problem) (before ++ line ∷ []) = All-append (LineFits c.problem) before (line ∷ []) follows.fit (All-cons (LineFits c.problem) line [] fits (All-nil (LineFits c.problem))) in
    let kept : next.kept ≡ kept_of c.problem (before ++ line ∷ []) = after ∙ ap (λ kept. kept_after c.problem kept line) follows.kept ∙ sym (keeping.kept_pushed c.problem before line (valid_deletes c.problem before follows.valid)) in
    record {
      fit = subst (λ f. All (LineFits f) (before ++ line ∷ [])) (sym same) fit;
      valid = subst (λ f. Valid f (before ++ line ∷ [])) (sym same) valid;
      kept = subst (λ f. next.kept ≡ kept_of f (before ++ line ∷ [])) (sym same) kept;
    }

pub followed_verdict : (c : CheckState) (all : List Line) → CheckerFollows c all → verdict c.problem all ≡ verdict_by c.kept.closed c.kept.best
followed_verdict c all follows = keeping.kept_verdict c.problem all follows.valid ∙ ap (λ (kept : Kept). verdict_by kept.closed kept.best) (sym follows.kept)

pub followed_bound : (c : CheckState) (all : List Line) → CheckerFollows c all → c.kept.bound ≡ bound_of all
followed_bound c all follows = ap (λ (kept : Kept). kept.bound) follows.kept

-- the bound that is kept is one of the problem
pub kept_bound : (c : CheckState) (all : List Line) → IsFlat c.problem → CheckerFollows c all → IfSome c.kept.bound (IsBound c.problem)
kept_bound c all flat follows = subst (λ o. IfSome o (IsBound c.problem)) (sym (followed_bound c all follows)) (bounds c.problem all flat follows.valid)

pub followed_held : (c : CheckState) (all : List Line) → CheckerFollows c all → length c.kept.live ≡ length (live_numbers all)
followed_held c all follows = ap (λ (kept : Kept). length kept.live) follows.kept ∙ sym (length-map (kept_of c.problem all).live (λ (one : NumberedClause). one.id)) ∙ ap length (keeping.kept_numbers c.problem all)

-- ---- what callers conclude

pub answers : (c : CheckState) (before : List Line) (line : Line) (result : Result CheckState CheckStop) → IsFlat c.problem → LineFits c.problem line → IfOk result (λ next. (next.problem ≡ c.problem) × (next.kept ≡ kept_after c.problem c.kept line) × (kept_refusal c.problem c.kept line ≡ None)) → IfErr result (λ stop. Stops stop (kept_refusal c.problem c.kept line)) → CheckerFollows c before → CheckerAnswers c.problem before line result
answers c before line (Ok next) flat fits taken refused follows = (
  taken.0,
  valid_line c before line flat follows fits taken.2,
  followed_line c next before line flat follows fits taken.2 taken.0 taken.1,
)
answers c before line (Err (stops.Refused r)) flat fits taken refused follows = followed_refusal c before line follows ∙ refused
answers c before line (Err stops.NoMemory) flat fits taken refused follows = tt
