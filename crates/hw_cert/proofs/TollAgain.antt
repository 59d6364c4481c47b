-- The words of a line of the third version spell that line.
use Rattle.std.proofs.Common.{◌≡◌, ◌<◌, ℕ, true, List, [], ◌∷◌, length, map, decimal, Option, Some, refl, ap, ◌∙◌}
use Rattle.std.proofs.lemmas.Bool.{and_parts}
use Rattle.std.specs.Prelude.{option_map, option_and_then}
use Rattle.std.specs.List.{list_all}
use Rattle.hw_model.specs.declared.lit.Lit.{Lit}
use Rattle.hw_price_laws.specs.declared.tariff.Due.{Due}
use Rattle.hw_price_laws.specs.declared.tariff.Tariff.{Tariff}
use Rattle.hw_price_laws.specs.declared.toll.Block.{Block}
use Rattle.hw_price_laws.specs.declared.toll.Toll.{Toll}
use Rattle.hw_cert_lines.specs.declared.line.Line.{Line}
use Rattle.hw_cert_lines.specs.declared.line.Line.TheVariants as lines
use Rattle.hw_price_laws.specs.declared.toll.Toll.TheVariants as tolls
use Rattle.hw_cert.specs.declared.version.Version.{Version}
use Rattle.hw_cert.specs.declared.version.Version.TheVariants.{One, Two, Three}
use Rattle.hw_cert.specs.Texts.{block_text, price_text}
use Rattle.hw_cert.specs.Spelled.{number_word, both_values, all_numbers, all_of, some_of, price_word, third, narrows_line, tugs_line, tariff_line, narrows_form, tugs_form, tariff_form, bound_form}
use Rattle.hw_cert.specs.Laws.{line_numbers, wide_numbers, has_form, is_small, is_wide}
use Rattle.hw_cert.proofs.NumberText.{number_again, numbers_again, some_list}
use Rattle.hw_cert.proofs.TollWords.{wide_again, blocks_again, prices_again}

-- a form of the third version alone
pub third_again : (version : Version) (o : Option Line) (line : Line) → o ≡ Some line → version ≡ Three → third version o ≡ Some line
third_again version o line e is = ap (λ (v : Version). third v o) is ∙ e

toll_third : (version : Version) (toll : Toll) → has_form version (lines.Toll toll) ≡ true → version ≡ Three
toll_third One toll f = absurd cc
toll_third Two toll f = absurd cc
toll_third Three toll f = refl

tariff_third : (version : Version) (tariff : Tariff) → has_form version (lines.Tariff tariff) ≡ true → version ≡ Three
tariff_third One tariff f = absurd cc
tariff_third Two tariff f = absurd cc
tariff_third Three tariff f = refl

pub priced_third : (version : Version) (clause : List Lit) → has_form version (lines.Priced clause) ≡ true → version ≡ Three
priced_third One clause f = absurd cc
priced_third Two clause f = absurd cc
priced_third Three clause f = refl

bound_third : (version : Version) (bound : ℕ) → has_form version (lines.Bound bound) ≡ true → version ≡ Three
bound_third One bound f = absurd cc
bound_third Two bound f = absurd cc
bound_third Three bound f = refl

pub narrows_again : (version : Version) (blocks : List Block) → list_all is_small (line_numbers (narrows_line blocks)) ≡ true → has_form version (narrows_line blocks) ≡ true → 0 < length blocks → narrows_form version (map block_text blocks) ≡ Some (narrows_line blocks)
narrows_again version blocks h f w =
    third_again version _ (narrows_line blocks)
    (ap (λ (o : Option (List Block)). option_map narrows_line (option_and_then some_of o)) (blocks_again blocks h) ∙ ap (option_map narrows_line) (some_list blocks w))
    (toll_third version (tolls.Narrows blocks) f)

pub tugs_again : (version : Version) (n slot most : ℕ) (weights : List ℕ) → list_all is_small (n ∷ slot ∷ most ∷ weights) ≡ true → has_form version (tugs_line n slot most weights) ≡ true
    → tugs_form version (decimal n ∷ decimal slot ∷ decimal most ∷ map decimal weights) ≡ Some (tugs_line n slot most weights)
tugs_again version n slot most weights h f =
    let p = and_parts (is_small n) (list_all is_small (slot ∷ most ∷ weights)) h in
    let q = and_parts (is_small slot) (list_all is_small (most ∷ weights)) p.1 in
    let r = and_parts (is_small most) (list_all is_small weights) q.1 in
    let made : Option (ℕ × (ℕ × (ℕ × List ℕ))) → Option Line = option_map (λ s. tugs_line s.0 s.1.0 s.1.1.0 s.1.1.1) in
    third_again version _ (tugs_line n slot most weights)
    (ap (λ (o : Option ℕ). made (both_values o (both_values (number_word (decimal slot)) (both_values (number_word (decimal most)) (all_numbers (map decimal weights)))))) (number_again n p.0)
    ∙ ap (λ (o : Option ℕ). made (both_values (Some n) (both_values o (both_values (number_word (decimal most)) (all_numbers (map decimal weights)))))) (number_again slot q.0)
    ∙ ap (λ (o : Option ℕ). made (both_values (Some n) (both_values (Some slot) (both_values o (all_numbers (map decimal weights)))))) (number_again most r.0)
    ∙ ap (λ (o : Option (List ℕ)). made (both_values (Some n) (both_values (Some slot) (both_values (Some most) o)))) (numbers_again weights r.1))
    (toll_third version (tolls.Tugs n slot weights most) f)

pub tariff_again : (version : Version) (tariff : Tariff) → list_all is_small (line_numbers (lines.Tariff tariff)) ≡ true → list_all is_wide (wide_numbers (lines.Tariff tariff)) ≡ true → has_form version (lines.Tariff tariff) ≡ true
    → tariff_form version (decimal tariff.scale ∷ map price_text tariff.dues) ≡ Some (lines.Tariff tariff)
tariff_again version tariff h l f =
    let p = and_parts (is_small tariff.scale) (list_all is_small (map (λ (due : Due). due.toll) tariff.dues)) h in
    let made : Option (ℕ × List Due) → Option Line = option_map (λ s. tariff_line s.0 s.1) in
    third_again version _ (lines.Tariff tariff)
    (ap (λ (o : Option ℕ). made (both_values o (all_of price_word (map price_text tariff.dues)))) (number_again tariff.scale p.0)
    ∙ ap (λ (o : Option (List Due)). made (both_values (Some tariff.scale) o)) (prices_again tariff.dues p.1 l))
    (tariff_third version tariff f)

pub bound_again : (version : Version) (bound : ℕ) → list_all is_wide (bound ∷ []) ≡ true → has_form version (lines.Bound bound) ≡ true → bound_form version (decimal bound ∷ []) ≡ Some (lines.Bound bound)
bound_again version bound l f = third_again version _ (lines.Bound bound) (ap (option_map lines.Bound) (wide_again bound (and_parts (is_wide bound) true l).0)) (bound_third version bound f)
