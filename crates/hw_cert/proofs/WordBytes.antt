-- Which bytes numbers and literals lack.
use Rattle.std.proofs.Common.{◌≡◌, ◌==◌, ◌≤◌, ◌<◌, ◌-◌, ◌^◌, ◌&&◌, not, ℕ, Bool, true, false, List, [], ◌∷◌, ◌++◌, map, decimal, refl, sym, ◌∙◌, arith}
use Rattle.std.proofs.lemmas.Bool.{and_parts, leb-true}
use Rattle.std.proofs.lemmas.Bool.Decides.{nat_tests}
use Rattle.std.proofs.lemmas.Fmt.{digits_decimal}
use Rattle.std.proofs.lemmas.List.Folds.{list_all-append}
use Rattle.std.specs.Prelude.{nat_le}
use Rattle.std.specs.List.{list_all, flat_map, join_with_byte}
use Rattle.hw_model.specs.declared.lit.Lit.{Lit}
use Rattle.hw_model.specs.declared.lit.Lit.TheVariants.{AtOrAfter, Before, First, NotFirst}
use Rattle.hw_text.specs.Numbers.{is_digit}
use Rattle.hw_text.specs.Parts.{lacks}
use Rattle.hw_text.proofs.Digits.{own}
use Rattle.hw_cert.specs.Texts.{pair_text, lit_text}
use Rattle.hw_cert.specs.Laws.{lit_numbers, is_small}

pub both_on : (a b : Bool) → a ≡ true → b ≡ true → (a && b) ≡ true
both_on true b p q = q
both_on false b p q = p

pub differs : (b c : ℕ) → c < b → not (b == c) ≡ true
differs b c lt = grind (arith, nat_tests)

pub digits_lack : (c : ℕ) (ds : List ℕ) → c < 48 → list_all is_digit ds ≡ true → lacks c ds ≡ true
digits_lack c [] lt h = refl
digits_lack c (d ∷ ds) lt h =
    let p = and_parts (is_digit d) (list_all is_digit ds) h in
    let low : 48 ≤ d = leb-true 48 d (and_parts (nat_le 48 d) (nat_le d 57) p.0).0 in
    both_on (not (d == c)) (lacks c ds) (differs d c (omega (arith, low, lt))) (digits_lack c ds lt p.1)

pub small_is : (n : ℕ) → is_small n ≡ true → n ≤ 2 ^ 32 - 1
small_is n h = leb-true n (2 ^ 32 - 1) h

pub number_lacks : (c n : ℕ) → c < 48 → is_small n ≡ true → lacks c (decimal n) ≡ true
number_lacks c n lt s = let le : n ≤ 2 ^ 32 - 1 = small_is n s in digits_lack c (decimal n) lt (digits_decimal own n (omega (arith, le)))

pub lacks_append : (c : ℕ) (xs ys : List ℕ) → lacks c xs ≡ true → lacks c ys ≡ true → lacks c (xs ++ ys) ≡ true
lacks_append c [] ys p q = q
lacks_append c (x ∷ xs) ys p q = let a = and_parts (not (x == c)) (lacks c xs) p in both_on (not (x == c)) (lacks c (xs ++ ys)) a.0 (lacks_append c xs ys a.1 q)

pair_lacks : (c x y : ℕ) → c < 46 → is_small x ≡ true → is_small y ≡ true → lacks c (pair_text x y) ≡ true
pair_lacks c x y lt p q = lacks_append c (decimal x) (46 ∷ decimal y) (number_lacks c x (omega arith) p) (both_on (not (46 == c)) (lacks c (decimal y)) (differs 46 c lt) (number_lacks c y (omega arith) q))

-- two numbers are small
pub two_small : (x y : ℕ) → list_all is_small (x ∷ y ∷ []) ≡ true → (is_small x ≡ true) × (is_small y ≡ true)
two_small x y h = let p = and_parts (is_small x) (list_all is_small (y ∷ [])) h in (p.0, (and_parts (is_small y) true p.1).0)

lit_lacks : (c : ℕ) (lit : Lit) → c < 46 → list_all is_small (lit_numbers lit) ≡ true → lacks c (lit_text lit) ≡ true
lit_lacks c (AtOrAfter ship slot) lt h = let p = two_small ship slot h in both_on (not (97 == c)) (lacks c (pair_text ship slot)) (differs 97 c (omega arith)) (pair_lacks c ship slot lt p.0 p.1)
lit_lacks c (Before ship slot) lt h = let p = two_small ship slot h in both_on (not (98 == c)) (lacks c (pair_text ship slot)) (differs 98 c (omega arith)) (pair_lacks c ship slot lt p.0 p.1)
lit_lacks c (First v w) lt h = let p = two_small v w h in both_on (not (102 == c)) (lacks c (pair_text v w)) (differs 102 c (omega arith)) (pair_lacks c v w lt p.0 p.1)
lit_lacks c (NotFirst v w) lt h = let p = two_small v w h in both_on (not (110 == c)) (lacks c (pair_text v w)) (differs 110 c (omega arith)) (pair_lacks c v w lt p.0 p.1)

-- the parts of a list whose numbers are small
pub small_parts : (xs ys : List ℕ) → list_all is_small (xs ++ ys) ≡ true → (list_all is_small xs ≡ true) × (list_all is_small ys ≡ true)
small_parts xs ys h = and_parts (list_all is_small xs) (list_all is_small ys) (sym (list_all-append is_small xs ys) ∙ h)

pub numbers_lack : (c : ℕ) (ns : List ℕ) → c < 46 → list_all is_small ns ≡ true → list_all (lacks c) (map decimal ns) ≡ true
numbers_lack c [] lt h = refl
numbers_lack c (n ∷ ns) lt h = let p = and_parts (is_small n) (list_all is_small ns) h in both_on (lacks c (decimal n)) (list_all (lacks c) (map decimal ns)) (number_lacks c n (omega arith) p.0) (numbers_lack c ns lt p.1)

pub lits_lack : (c : ℕ) (ls : List Lit) → c < 46 → list_all is_small (flat_map lit_numbers ls) ≡ true → list_all (lacks c) (map lit_text ls) ≡ true
lits_lack c [] lt h = refl
lits_lack c (l ∷ ls) lt h = let p = small_parts (lit_numbers l) (flat_map lit_numbers ls) h in both_on (lacks c (lit_text l)) (list_all (lacks c) (map lit_text ls)) (lit_lacks c l lt p.0) (lits_lack c ls lt p.1)

-- joined words lack what each word and the byte between them lack
pub joined_lacks : (c at : ℕ) (ws : List (List ℕ)) → not (at == c) ≡ true → list_all (lacks c) ws ≡ true → lacks c (join_with_byte at ws) ≡ true
joined_lacks c at [] d h = refl
joined_lacks c at (w ∷ []) d h = (and_parts (lacks c w) true h).0
joined_lacks c at (w ∷ v ∷ ws) d h =
    let p = and_parts (lacks c w) (list_all (lacks c) (v ∷ ws)) h in
    lacks_append c w (at ∷ join_with_byte at (v ∷ ws)) p.0 (both_on (not (at == c)) (lacks c (join_with_byte at (v ∷ ws))) d (joined_lacks c at (v ∷ ws) d p.1))
