-- Lines that put no tariff in force.
use Rattle.std.proofs.Common.{◌≡◌, true, List, [], ◌∷◌, ◌++◌, Option, None, All, fold, refl, sym, ◌∙◌}
use Rattle.std.proofs.lemmas.List.Elements.{All-head, All-tail}
use Rattle.std.proofs.lemmas.List.Sums.{fold-append}
use Rattle.hw_cert_lines.specs.declared.line.Line.{Line}
use Rattle.hw_cert_lines.specs.declared.line.Line.TheVariants as lines
use Rattle.hw_cert_lines.specs.Tolled.{is_plain, tariff_after, tariff_of}
use Rattle.hw_price_laws.specs.declared.tariff.Tariff.{Tariff}
use Rattle.hw_search_laws.proofs.Holds.{plain_stays}

-- a line that leaves no tariff in force found none
one_before : (last : Option Tariff) (line : Line) → tariff_after last line ≡ None → last ≡ None
one_before last (lines.Table table) e = e
one_before last (lines.Explain n clause) e = e
one_before last (lines.Order v w x clause) e = e
one_before last (lines.Goal clause) e = e
one_before last (lines.Lemma clause hints) e = e
one_before last (lines.Delete ids) e = e
one_before last (lines.Toll toll) e = e
one_before last (lines.Tariff tariff) e = absurd cc
one_before last (lines.Priced clause) e = e
one_before last (lines.Bound bound) e = e

all_before : (last : Option Tariff) (xs : List Line) → fold tariff_after last xs ≡ None → last ≡ None
all_before last [] e = e
all_before last (line ∷ xs) e = one_before last line (all_before (tariff_after last line) xs e)

-- where lines leave no tariff in force, none was before the last of them
pub tariff_before : (before xs : List Line) → tariff_of (before ++ xs) ≡ None → tariff_of before ≡ None
tariff_before before xs e = all_before (tariff_of before) xs (sym (fold-append tariff_after None before xs) ∙ e)

abbrev IsPlain : Line → Type 0
IsPlain line = is_plain line ≡ true

fold_plain : (last : Option Tariff) (xs : List Line) → All IsPlain xs → fold tariff_after last xs ≡ last
fold_plain last [] h = refl
fold_plain last (line ∷ xs) h = fold_plain (tariff_after last line) xs (All-tail IsPlain line xs h) ∙ plain_stays last line (All-head IsPlain line xs h)

-- lines that say nothing of tolls or prices leave no tariff in force
pub plain_tariff : (all : List Line) → All (λ line. is_plain line ≡ true) all → tariff_of all ≡ None
plain_tariff all h = fold_plain None all h
