-- Which bytes the words of a line lack.
use Rattle.std.proofs.Common.{◌≡◌, ◌==◌, ◌<◌, not, ℕ, true, List, [], ◌∷◌, ◌++◌, map, decimal, refl, ◌∙◌, arith}
use Rattle.std.proofs.lemmas.Bool.{and_parts}
use Rattle.std.proofs.lemmas.List.Folds.{list_all-append}
use Rattle.std.specs.Prelude.{codes}
use Rattle.std.specs.List.{list_all, flat_map}
use Rattle.hw_text.specs.Parts.{lacks}
use Rattle.hw_cert_lines.specs.declared.line.Line.{Line}
use Rattle.hw_cert_lines.specs.declared.line.Line.TheVariants as lines
use Rattle.hw_price_laws.specs.declared.tariff.Due.{Due}
use Rattle.hw_price_laws.specs.declared.toll.Toll.TheVariants as tolls
use Rattle.hw_cert.specs.Texts.{lit_text, block_text, price_text, line_words}
use Rattle.hw_cert.specs.Laws.{lit_numbers, line_numbers, wide_numbers, is_small, is_wide}
use Rattle.hw_cert.proofs.WordBytes.{both_on, differs, number_lacks, small_parts, numbers_lack, lits_lack}
use Rattle.hw_cert.proofs.TollBytes.{wide_lacks, blocks_lack, prices_lack}

all_append : (c : ℕ) (xs ys : List (List ℕ)) → list_all (lacks c) xs ≡ true → list_all (lacks c) ys ≡ true → list_all (lacks c) (xs ++ ys) ≡ true
all_append c xs ys p q = list_all-append (lacks c) xs ys ∙ both_on (list_all (lacks c) xs) (list_all (lacks c) ys) p q

letter_lacks : (c b : ℕ) → c < b → lacks c (b ∷ []) ≡ true
letter_lacks c b lt = both_on (not (b == c)) true (differs b c lt) refl

-- the words of a line lack spaces and line feeds
pub words_lack : (c : ℕ) (line : Line) → c < 46 → list_all is_small (line_numbers line) ≡ true → list_all is_wide (wide_numbers line) ≡ true → list_all (lacks c) (line_words line) ≡ true
words_lack c (lines.Table table) lt h wide = both_on (lacks c (codes "t")) (list_all (lacks c) (map decimal table)) (letter_lacks c 116 (omega arith)) (numbers_lack c table lt h)
words_lack c (lines.Explain n clause) lt h wide =
    let p = and_parts (is_small n) (list_all is_small (flat_map lit_numbers clause)) h in
    both_on (lacks c (codes "e")) (list_all (lacks c) (decimal n ∷ map lit_text clause)) (letter_lacks c 101 (omega arith))
    (both_on (lacks c (decimal n)) (list_all (lacks c) (map lit_text clause)) (number_lacks c n (omega arith) p.0) (lits_lack c clause lt p.1))
words_lack c (lines.Order v w x clause) lt h wide =
    let p = and_parts (is_small v) (list_all is_small (w ∷ x ∷ flat_map lit_numbers clause)) h in
    let q = and_parts (is_small w) (list_all is_small (x ∷ flat_map lit_numbers clause)) p.1 in
    let r = and_parts (is_small x) (list_all is_small (flat_map lit_numbers clause)) q.1 in
    both_on (lacks c (codes "o")) (list_all (lacks c) (decimal v ∷ decimal w ∷ decimal x ∷ map lit_text clause)) (letter_lacks c 111 (omega arith))
    (both_on (lacks c (decimal v)) (list_all (lacks c) (decimal w ∷ decimal x ∷ map lit_text clause)) (number_lacks c v (omega arith) p.0)
    (both_on (lacks c (decimal w)) (list_all (lacks c) (decimal x ∷ map lit_text clause)) (number_lacks c w (omega arith) q.0)
    (both_on (lacks c (decimal x)) (list_all (lacks c) (map lit_text clause)) (number_lacks c x (omega arith) r.0) (lits_lack c clause lt r.1))))
words_lack c (lines.Goal clause) lt h wide = both_on (lacks c (codes "g")) (list_all (lacks c) (map lit_text clause)) (letter_lacks c 103 (omega arith)) (lits_lack c clause lt h)
words_lack c (lines.Lemma clause hints) lt h wide =
    let p = small_parts (flat_map lit_numbers clause) hints h in
    both_on (lacks c (codes "l")) (list_all (lacks c) (map lit_text clause ++ codes ";" ∷ map decimal hints)) (letter_lacks c 108 (omega arith))
    (all_append c (map lit_text clause) (codes ";" ∷ map decimal hints) (lits_lack c clause lt p.0)
    (both_on (lacks c (codes ";")) (list_all (lacks c) (map decimal hints)) (letter_lacks c 59 (omega arith)) (numbers_lack c hints lt p.1)))
words_lack c (lines.Delete ids) lt h wide = both_on (lacks c (codes "d")) (list_all (lacks c) (map decimal ids)) (letter_lacks c 100 (omega arith)) (numbers_lack c ids lt h)
words_lack c (lines.Toll (tolls.Narrows blocks)) lt h wide = both_on (lacks c (codes "n")) (list_all (lacks c) (map block_text blocks)) (letter_lacks c 110 (omega arith)) (blocks_lack c blocks lt h)
words_lack c (lines.Toll (tolls.Tugs n slot weights most)) lt h wide =
    let p = and_parts (is_small n) (list_all is_small (slot ∷ most ∷ weights)) h in
    let q = and_parts (is_small slot) (list_all is_small (most ∷ weights)) p.1 in
    let r = and_parts (is_small most) (list_all is_small weights) q.1 in
    both_on (lacks c (codes "u")) (list_all (lacks c) (decimal n ∷ decimal slot ∷ decimal most ∷ map decimal weights)) (letter_lacks c 117 (omega arith))
    (both_on (lacks c (decimal n)) (list_all (lacks c) (decimal slot ∷ decimal most ∷ map decimal weights)) (number_lacks c n (omega arith) p.0)
    (both_on (lacks c (decimal slot)) (list_all (lacks c) (decimal most ∷ map decimal weights)) (number_lacks c slot (omega arith) q.0)
    (both_on (lacks c (decimal most)) (list_all (lacks c) (map decimal weights)) (number_lacks c most (omega arith) r.0) (numbers_lack c weights lt r.1))))
words_lack c (lines.Tariff tariff) lt h wide =
    let p = and_parts (is_small tariff.scale) (list_all is_small (map (λ (due : Due). due.toll) tariff.dues)) h in
    both_on (lacks c (codes "y")) (list_all (lacks c) (decimal tariff.scale ∷ map price_text tariff.dues)) (letter_lacks c 121 (omega arith))
    (both_on (lacks c (decimal tariff.scale)) (list_all (lacks c) (map price_text tariff.dues)) (number_lacks c tariff.scale (omega arith) p.0) (prices_lack c tariff.dues lt p.1 wide))
words_lack c (lines.Priced clause) lt h wide = both_on (lacks c (codes "p")) (list_all (lacks c) (map lit_text clause)) (letter_lacks c 112 (omega arith)) (lits_lack c clause lt h)
words_lack c (lines.Bound bound) lt h wide = both_on (lacks c (codes "b")) (list_all (lacks c) (decimal bound ∷ [])) (letter_lacks c 98 (omega arith)) (both_on (lacks c (decimal bound)) true (wide_lacks c bound (omega arith) (and_parts (is_wide bound) true wide).0) refl)
