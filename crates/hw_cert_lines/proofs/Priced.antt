-- Valid lines declare tolls of the problem, and the tariff in force fits them.
use Rattle.std.proofs.Common.{◌≡◌, ℕ, zero, suc, ◌+◌, ◌<◌, ◌≤◌, List, [], ◌∷◌, ◌++◌, Option, Some, None, length, map, get_or, All, IfSome, refl, sym, ap, ◌∙◌, subst, arith, append-nil, append_assoc, length-append}
use Rattle.std.proofs.lemmas.List.{length-map}
use Rattle.std.proofs.lemmas.Option.{same_Some}
use Rattle.std.proofs.lemmas.List.Elements.{All-nil, All-cons, All-append, All-head, All-tail, All-weaker}
use Rattle.std.specs.List.{cons_option}
use Rattle.std.specs.List.Sorted.{IsStrictlyIncreasing}
use Rattle.hw_model.specs.Problem.{Problem}
use Rattle.hw_price_laws.specs.declared.tariff.Due.{Due}
use Rattle.hw_price_laws.specs.declared.tariff.Tariff.{Tariff}
use Rattle.hw_price_laws.specs.declared.toll.Toll.{Toll}
use Rattle.hw_price_laws.specs.Prices.{DueFits, TariffFits}
use Rattle.hw_price_laws.specs.Tolls.{IsToll}
use Rattle.hw_cert_lines.specs.declared.line.Line.{Line}
use Rattle.hw_cert_lines.specs.declared.line.Line.TheVariants as lines
use Rattle.hw_cert_lines.specs.Tolled.{toll_of, tolls_of, tariff_after, tariff_of}
use Rattle.hw_cert_lines.specs.Valid.{LineFits, PricesFit, ValidAfter, ValidFrom, Valid}
use Rattle.hw_cert_lines.specs.Laws.{TollsAreGood}
use Rattle.hw_cert_lines.proofs.Pushed.{tolls_push, tariff_push}

-- ---- tolls of valid lines

toll_is : (f : Problem) (before : List Line) (line : Line) (toll : Toll) → ValidAfter f before line → toll_of line ≡ Some toll → (length (tolls_of before) < 10_000) × IsToll f toll
toll_is f before (lines.Table table) toll valid e = absurd cc
toll_is f before (lines.Explain n clause) toll valid e = absurd cc
toll_is f before (lines.Order v w x clause) toll valid e = absurd cc
toll_is f before (lines.Goal clause) toll valid e = absurd cc
toll_is f before (lines.Lemma clause hints) toll valid e = absurd cc
toll_is f before (lines.Delete ids) toll valid e = absurd cc
toll_is f before (lines.Toll own) toll valid e =
    let claim = valid.claim in
    let same : own ≡ toll = same_Some own toll e in
    (claim.0, subst (IsToll f) same claim.1)
toll_is f before (lines.Tariff tariff) toll valid e = absurd cc
toll_is f before (lines.Priced clause) toll valid e = absurd cc
toll_is f before (lines.Bound bound) toll valid e = absurd cc

-- tolls of the problem, and not too many
pub record AreTolls (f : Problem) (held : List Toll) : Type 0 where
  pub each : All (IsToll f) held
  pub few : length held ≤ 10_000

with_one : (f : Problem) (held : List Toll) (o : Option Toll) → AreTolls f held → ((toll : Toll) → o ≡ Some toll → (length held < 10_000) × IsToll f toll) → AreTolls f (held ++ cons_option o [])
with_one f held None are new = subst (AreTolls f) (sym (append-nil held)) are
with_one f held (Some toll) are new =
    let parts = new toll refl in
    record {
      each = All-append (IsToll f) held (toll ∷ []) are.each (All-cons (IsToll f) toll [] parts.1 (All-nil (IsToll f)));
      few = omega (arith, parts.0, length-append held (toll ∷ []));
    }

pub tolls_more : (f : Problem) (before : List Line) (line : Line) → ValidAfter f before line → AreTolls f (tolls_of before) → AreTolls f (tolls_of (before ++ line ∷ []))
tolls_more f before line valid are = subst (AreTolls f) (sym (tolls_push before line)) (with_one f (tolls_of before) (toll_of line) are (λ toll e. toll_is f before line toll valid e))

tolls_from : (f : Problem) (more before : List Line) → ValidFrom f before more → AreTolls f (tolls_of before) → AreTolls f (tolls_of (before ++ more))
tolls_from f [] before valid are = subst (λ all. AreTolls f (tolls_of all)) (sym (append-nil before)) are
tolls_from f (line ∷ more) before valid are = subst (λ all. AreTolls f (tolls_of all)) (append_assoc before (line ∷ []) more) (tolls_from f more (before ++ line ∷ []) valid.1 (tolls_more f before line valid.0 are))

pub no_tolls : (f : Problem) → AreTolls f (tolls_of [])
no_tolls f = record { each = All-nil (IsToll f); few = omega arith }

pub are_tolls : (f : Problem) (all : List Line) → Valid f all → AreTolls f (tolls_of all)
are_tolls f all valid = tolls_from f all [] valid (no_tolls f)

-- ---- the tariff in force

-- the number at a place of numbers that ascend from one on is greater than the place
rank : (ids : List ℕ) → IsStrictlyIncreasing ids → All (λ id. 0 < id) ids → (k : ℕ) → k < length ids → k < get_or ids k 0
rank ids ascends above zero lt = above 0 0 lt
rank ids ascends above (suc k) lt =
    let before : k < get_or ids k 0 = rank ids ascends above k (omega (arith, lt)) in
    let step : get_or ids k 0 < get_or ids (k + 1) 0 = ascends k (omega (arith, lt)) in
    next k (get_or ids k 0) step before
  where
    next : (k : ℕ) (one : ℕ) → one < get_or ids (k + 1) 0 → k < one → suc k < get_or ids (suc k) 0
    next k one step before =
        let same : suc k ≡ k + 1 = omega arith in
        omega (arith, step, before, ap (λ n. get_or ids n 0) same)

-- so there are at most as many as the greatest
few_numbers : (most : ℕ) (ids : List ℕ) → IsStrictlyIncreasing ids → All (λ id. 0 < id) ids → All (λ id. id ≤ most) ids → length ids ≤ most
few_numbers most [] ascends above below = omega arith
few_numbers most (id ∷ ids) ascends above below =
    let last : length ids < get_or (id ∷ ids) (length ids) 0 = rank (id ∷ ids) ascends above (length ids) (omega arith) in
    let within : get_or (id ∷ ids) (length ids) 0 ≤ most = below (length ids) 0 (omega arith) in
    omega (arith, last, within)

numbers_of : (P : ℕ → Type 0) (dues : List Due) → All (λ (due : Due). P due.toll) dues → All P (map (λ (due : Due). due.toll) dues)
numbers_of P [] all = All-nil P
numbers_of P (due ∷ dues) all = All-cons P due.toll (map (λ (due : Due). due.toll) dues) (All-head (λ (due : Due). P due.toll) due dues all) (numbers_of P dues (All-tail (λ (due : Due). P due.toll) due dues all))

-- prices on this many tolls, at most 10,000
pub tariff_fits : (count : ℕ) (tariff : Tariff) → count ≤ 10_000 → PricesFit tariff → All (λ (due : Due). due.toll ≤ count) tariff.dues → TariffFits count tariff
tariff_fits count tariff few fits known =
    let many : length (map (λ (due : Due). due.toll) tariff.dues) ≤ count = few_numbers count (map (λ (due : Due). due.toll) tariff.dues) fits.ascend (numbers_of (λ id. 0 < id) tariff.dues fits.from_one) (numbers_of (λ id. id ≤ count) tariff.dues known) in
    record {
      small_scale = fits.small_scale;
      few_dues = omega (arith, many, few, length-map tariff.dues (λ (due : Due). due.toll));
      each_due = λ i d lt. record { from_one = fits.from_one i d lt; toll_in = known i d lt; small_price = fits.small_prices i d lt };
    }

-- more tolls do no harm
more_fit : (few many : ℕ) (tariff : Tariff) → few ≤ many → TariffFits few tariff → TariffFits many tariff
more_fit few many tariff le fits = record {
  small_scale = fits.small_scale;
  few_dues = fits.few_dues;
  each_due = All-weaker (DueFits few) (DueFits many) (λ due one. record { from_one = one.from_one; toll_in = omega (arith, one.toll_in, le); small_price = one.small_price }) tariff.dues fits.each_due;
}

old_fits : (few many : ℕ) (o : Option Tariff) → few ≤ many → IfSome o (TariffFits few) → IfSome o (TariffFits many)
old_fits few many None le fits = tt
old_fits few many (Some tariff) le fits = more_fit few many tariff le fits

many_tolls : (before : List Line) (line : Line) → length (tolls_of before) ≤ length (tolls_of (before ++ line ∷ []))
many_tolls before line = omega (arith, ap length (tolls_push before line), length-append (tolls_of before) (cons_option (toll_of line) []))

-- the tariff in force fits the tolls
abbrev pub Fitting : Problem → List Line → Type 0
Fitting f before = IfSome (tariff_of before) (TariffFits (length (tolls_of before)))

same_fits : (f : Problem) (before : List Line) (line : Line) → tariff_after (tariff_of before) line ≡ tariff_of before → Fitting f before → Fitting f (before ++ line ∷ [])
same_fits f before line same fits = subst (λ o. IfSome o (TariffFits (length (tolls_of (before ++ line ∷ []))))) (sym (tariff_push before line ∙ same)) (old_fits _ _ (tariff_of before) (many_tolls before line) fits)

pub fitting_more : (f : Problem) (before : List Line) (line : Line) → LineFits f line → ValidAfter f before line → AreTolls f (tolls_of before) → Fitting f before → Fitting f (before ++ line ∷ [])
fitting_more f before (lines.Table table) own valid are fits = same_fits f before (lines.Table table) refl fits
fitting_more f before (lines.Explain n clause) own valid are fits = same_fits f before (lines.Explain n clause) refl fits
fitting_more f before (lines.Order v w x clause) own valid are fits = same_fits f before (lines.Order v w x clause) refl fits
fitting_more f before (lines.Goal clause) own valid are fits = same_fits f before (lines.Goal clause) refl fits
fitting_more f before (lines.Lemma clause hints) own valid are fits = same_fits f before (lines.Lemma clause hints) refl fits
fitting_more f before (lines.Delete ids) own valid are fits = same_fits f before (lines.Delete ids) refl fits
fitting_more f before (lines.Toll toll) own valid are fits = same_fits f before (lines.Toll toll) refl fits
fitting_more f before (lines.Tariff tariff) own valid are fits =
    subst (λ o. IfSome o (TariffFits (length (tolls_of (before ++ lines.Tariff tariff ∷ []))))) (sym (tariff_push before (lines.Tariff tariff)))
    (more_fit _ _ tariff (many_tolls before (lines.Tariff tariff)) (tariff_fits (length (tolls_of before)) tariff are.few own valid.claim))
fitting_more f before (lines.Priced clause) own valid are fits = same_fits f before (lines.Priced clause) refl fits
fitting_more f before (lines.Bound bound) own valid are fits = same_fits f before (lines.Bound bound) refl fits

fitting_from : (f : Problem) (more before : List Line) → All (LineFits f) more → ValidFrom f before more → AreTolls f (tolls_of before) → Fitting f before → Fitting f (before ++ more)
fitting_from f [] before own valid are fits = subst (Fitting f) (sym (append-nil before)) fits
fitting_from f (line ∷ more) before own valid are fits =
    subst (Fitting f) (append_assoc before (line ∷ []) more)
    (fitting_from f more (before ++ line ∷ []) (All-tail (LineFits f) line more own) valid.1 (tolls_more f before line valid.0 are) (fitting_more f before line (All-head (LineFits f) line more own) valid.0 are fits))

-- ---- the law

pub valid_tolls : (f : Problem) (all : List Line) → Valid f all → TollsAreGood f all
valid_tolls f all valid =
    let are = are_tolls f all valid in
    record { tolls = are.each; few = are.few; tariff = λ own. fitting_from f all [] own valid (no_tolls f) tt }
