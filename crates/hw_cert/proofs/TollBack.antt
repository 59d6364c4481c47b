-- What reads as a line of the third version has the words of that line.
use Rattle.std.proofs.Common.{◌≡◌, cond, nat_lt, ℕ, Bool, true, false, List, [], ◌∷◌, length, map, decimal, Option, Some, None, refl, ap, ◌∙◌, subst}
use Rattle.std.specs.Prelude.{codes, option_and_then}
use Rattle.std.specs.List.{list_all}
use Rattle.hw_cert_lines.specs.declared.line.Line.{Line}
use Rattle.hw_cert_lines.specs.declared.line.Line.TheVariants as lines
use Rattle.hw_price_laws.specs.declared.tariff.Due.{Due}
use Rattle.hw_cert.specs.declared.version.Version.{Version}
use Rattle.hw_cert.specs.declared.version.Version.TheVariants.{One, Two, Three}
use Rattle.hw_cert.specs.Spelled.{number_word, wide_word, both_values, all_numbers, all_of, some_of, block_word, price_word, only_lits, third, narrows_line, tugs_line, tariff_line, narrows_form, tug_toll_words, tugs_form, tariff_words, tariff_form, priced_form, bound_words, bound_form}
use Rattle.hw_cert.specs.Laws.{is_small, is_wide}
use Rattle.hw_cert.proofs.WordBytes.{both_on}
use Rattle.hw_cert.proofs.ReadBack.{mapped, chained, paired, number_back, numbers_back}
use Rattle.hw_cert.proofs.TollWords.{wide_back, blocks_back, prices_back}
use Rattle.hw_cert.proofs.Spells.{Spells, only_back}

-- the third version alone has the form
third_back : (version : Version) (o : Option Line) (line : Line) (kind : List ℕ) (ws : List (List ℕ)) → third version o ≡ Some line → (o ≡ Some line → Spells Three kind ws line) → Spells version kind ws line
third_back One o line kind ws h f = absurd cc
third_back Two o line kind ws h f = absurd cc
third_back Three o line kind ws h f = f h

some_list_back : {A : Type 0} (xs ys : List A) → some_of xs ≡ Some ys → xs ≡ ys
some_list_back xs ys h = kept (nat_lt 0 (length xs)) xs ys h
  where
    kept : {A : Type 0} (b : Bool) (xs ys : List A) → cond b (Some xs) None ≡ Some ys → xs ≡ ys
    kept true xs ys e = cc
    kept false xs ys e = absurd cc

pub narrows_back : (version : Version) (ws : List (List ℕ)) (line : Line) → narrows_form version ws ≡ Some line → Spells version (codes "n") ws line
narrows_back version ws line h = third_back version _ line (codes "n") ws h (λ e.
    let p = mapped narrows_line (option_and_then some_of (all_of block_word ws)) line e in
    let q = chained some_of (all_of block_word ws) p.0 p.1 in
    let r = blocks_back ws p.0 (q.1 ∙ ap Some (some_list_back q.0 p.0 q.2)) in
    subst (Spells Three (codes "n") ws) p.2 (record { words_are = ap (λ (vs : List (List ℕ)). codes "n" ∷ vs) r.0; small = r.1; wide = refl; formed = refl }))

tugs_words_back : (ws : List (List ℕ)) (line : Line) → tug_toll_words ws ≡ Some line → Spells Three (codes "u") ws line
tugs_words_back [] line h = absurd cc
tugs_words_back (v ∷ []) line h = absurd cc
tugs_words_back (v ∷ w ∷ []) line h = absurd cc
tugs_words_back (v ∷ w ∷ x ∷ ws) line h =
    let p = mapped (λ (s : ℕ × (ℕ × (ℕ × List ℕ))). tugs_line s.0 s.1.0 s.1.1.0 s.1.1.1) (both_values (number_word v) (both_values (number_word w) (both_values (number_word x) (all_numbers ws)))) line h in
    let a = paired (number_word v) (both_values (number_word w) (both_values (number_word x) (all_numbers ws))) p.0 p.1 in
    let b = paired (number_word w) (both_values (number_word x) (all_numbers ws)) p.0.1 a.1 in
    let d = paired (number_word x) (all_numbers ws) p.0.1.1 b.1 in
    let first = number_back v p.0.0 a.0 in
    let second = number_back w p.0.1.0 b.0 in
    let third = number_back x p.0.1.1.0 d.0 in
    let r = numbers_back ws p.0.1.1.1 d.1 in
    subst (Spells Three (codes "u") (v ∷ w ∷ x ∷ ws)) p.2 (record {
      words_are = ap (λ (y : List ℕ). codes "u" ∷ y ∷ w ∷ x ∷ ws) first.0 ∙ ap (λ (y : List ℕ). codes "u" ∷ decimal p.0.0 ∷ y ∷ x ∷ ws) second.0
          ∙ ap (λ (y : List ℕ). codes "u" ∷ decimal p.0.0 ∷ decimal p.0.1.0 ∷ y ∷ ws) third.0 ∙ ap (λ (vs : List (List ℕ)). codes "u" ∷ decimal p.0.0 ∷ decimal p.0.1.0 ∷ decimal p.0.1.1.0 ∷ vs) r.0;
      small = both_on (is_small p.0.0) _ first.1 (both_on (is_small p.0.1.0) _ second.1 (both_on (is_small p.0.1.1.0) _ third.1 r.1));
      wide = refl;
      formed = refl;
    })

pub tugs_back : (version : Version) (ws : List (List ℕ)) (line : Line) → tugs_form version ws ≡ Some line → Spells version (codes "u") ws line
tugs_back version ws line h = third_back version (tug_toll_words ws) line (codes "u") ws h (tugs_words_back ws line)

tariff_words_back : (ws : List (List ℕ)) (line : Line) → tariff_words ws ≡ Some line → Spells Three (codes "y") ws line
tariff_words_back [] line h = absurd cc
tariff_words_back (v ∷ ws) line h =
    let p = mapped (λ (q : ℕ × List Due). tariff_line q.0 q.1) (both_values (number_word v) (all_of price_word ws)) line h in
    let q = paired (number_word v) (all_of price_word ws) p.0 p.1 in
    let a = number_back v p.0.0 q.0 in
    let r = prices_back ws p.0.1 q.1 in
    subst (Spells Three (codes "y") (v ∷ ws)) p.2 (record {
      words_are = ap (λ (y : List ℕ). codes "y" ∷ y ∷ ws) a.0 ∙ ap (λ (vs : List (List ℕ)). codes "y" ∷ decimal p.0.0 ∷ vs) r.words;
      small = both_on (is_small p.0.0) (list_all is_small (map (λ (due : Due). due.toll) p.0.1)) a.1 r.small;
      wide = r.wide;
      formed = refl;
    })

pub tariff_back : (version : Version) (ws : List (List ℕ)) (line : Line) → tariff_form version ws ≡ Some line → Spells version (codes "y") ws line
tariff_back version ws line h = third_back version (tariff_words ws) line (codes "y") ws h (tariff_words_back ws line)

pub priced_back : (version : Version) (ws : List (List ℕ)) (line : Line) → priced_form version ws ≡ Some line → Spells version (codes "p") ws line
priced_back version ws line h = third_back version _ line (codes "p") ws h (λ e.
    let p = mapped lines.Priced (only_lits ws) line e in
    let r = only_back ws p.0 p.1 in
    subst (Spells Three (codes "p") ws) p.2 (record { words_are = ap (λ (vs : List (List ℕ)). codes "p" ∷ vs) r.0; small = r.1; wide = refl; formed = refl }))

bound_words_back : (ws : List (List ℕ)) (line : Line) → bound_words ws ≡ Some line → Spells Three (codes "b") ws line
bound_words_back [] line h = absurd cc
bound_words_back (w ∷ []) line h =
    let p = mapped lines.Bound (wide_word w) line h in
    let r = wide_back w p.0 p.1 in
    subst (Spells Three (codes "b") (w ∷ [])) p.2 (record { words_are = ap (λ (y : List ℕ). codes "b" ∷ y ∷ []) r.0; small = refl; wide = both_on (is_wide p.0) true r.1 refl; formed = refl })
bound_words_back (w ∷ v ∷ ws) line h = absurd cc

pub bound_back : (version : Version) (ws : List (List ℕ)) (line : Line) → bound_form version ws ≡ Some line → Spells version (codes "b") ws line
bound_back version ws line h = third_back version (bound_words ws) line (codes "b") ws h (bound_words_back ws line)
