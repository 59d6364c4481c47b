-- No permitted timetable carries more than the bound of valid lines.
use Rattle.std.proofs.Common.{◌≡◌, ℕ, List, [], ◌∷◌, ◌++◌, Option, Some, None, All, IfSome, IsSomeAnd, refl, sym, ◌∙◌, subst, append_assoc, append-nil}
use Rattle.hw_model.specs.Problem.{Problem}
use Rattle.hw_model.specs.Limits.{IsFlat}
use Rattle.hw_price_laws.specs.declared.tariff.Tariff.{Tariff}
use Rattle.hw_price_laws.specs.Tolls.{IsToll}
use Rattle.hw_price_laws.proofs.Sound.{bounded}
use Rattle.hw_cert_lines.specs.declared.line.Line.{Line}
use Rattle.hw_cert_lines.specs.declared.line.Line.TheVariants as lines
use Rattle.hw_cert_lines.specs.Tolled.{tolls_of, tariff_of, bound_after, bound_of}
use Rattle.hw_cert_lines.specs.Valid.{ValidAfter, ValidFrom, Valid, Bounds}
use Rattle.hw_cert_lines.proofs.Pushed.{bound_push}
use Rattle.hw_cert_lines.proofs.Priced.{AreTolls, no_tolls, tolls_more}
use Rattle.hw_cert_laws.specs.Laws.{IsBound}

-- the prices in force show a bound
shown : (f : Problem) (before : List Line) (bound : ℕ) (o : Option Tariff) → IsFlat f → All (IsToll f) (tolls_of before) → IsSomeAnd o (Bounds f before bound) → IsBound f bound
shown f before bound None flat all h = absurd h
shown f before bound (Some tariff) flat all h = λ table c permits worth. bounded f (tolls_of before) tariff bound table c flat all h.1 permits worth

same_bound : (f : Problem) (before : List Line) (line : Line) → bound_after (bound_of before) line ≡ bound_of before → IfSome (bound_of before) (IsBound f) → IfSome (bound_of (before ++ line ∷ [])) (IsBound f)
same_bound f before line same is = subst (λ o. IfSome o (IsBound f)) (sym (bound_push before line ∙ same)) is

bound_more : (f : Problem) (before : List Line) (line : Line) → IsFlat f → All (IsToll f) (tolls_of before) → ValidAfter f before line → IfSome (bound_of before) (IsBound f) → IfSome (bound_of (before ++ line ∷ [])) (IsBound f)
bound_more f before (lines.Table table) flat all valid is = same_bound f before (lines.Table table) refl is
bound_more f before (lines.Explain n clause) flat all valid is = same_bound f before (lines.Explain n clause) refl is
bound_more f before (lines.Order v w x clause) flat all valid is = same_bound f before (lines.Order v w x clause) refl is
bound_more f before (lines.Goal clause) flat all valid is = same_bound f before (lines.Goal clause) refl is
bound_more f before (lines.Lemma clause hints) flat all valid is = same_bound f before (lines.Lemma clause hints) refl is
bound_more f before (lines.Delete ids) flat all valid is = same_bound f before (lines.Delete ids) refl is
bound_more f before (lines.Toll toll) flat all valid is = same_bound f before (lines.Toll toll) refl is
bound_more f before (lines.Tariff tariff) flat all valid is = same_bound f before (lines.Tariff tariff) refl is
bound_more f before (lines.Priced clause) flat all valid is = same_bound f before (lines.Priced clause) refl is
bound_more f before (lines.Bound bound) flat all valid is = subst (λ o. IfSome o (IsBound f)) (sym (bound_push before (lines.Bound bound))) (shown f before bound (tariff_of before) flat all valid.claim.0)

bounds_from : (f : Problem) (more before : List Line) → IsFlat f → ValidFrom f before more → AreTolls f (tolls_of before) → IfSome (bound_of before) (IsBound f) → IfSome (bound_of (before ++ more)) (IsBound f)
bounds_from f [] before flat valid are is = subst (λ all. IfSome (bound_of all) (IsBound f)) (sym (append-nil before)) is
bounds_from f (line ∷ more) before flat valid are is =
    subst (λ all. IfSome (bound_of all) (IsBound f)) (append_assoc before (line ∷ []) more)
    (bounds_from f more (before ++ line ∷ []) flat valid.1 (tolls_more f before line valid.0 are) (bound_more f before line flat are.each valid.0 is))

pub bounds : (f : Problem) (all : List Line) → IsFlat f → Valid f all → IfSome (bound_of all) (IsBound f)
bounds f all flat valid = bounds_from f all [] flat valid (no_tolls f) tt
