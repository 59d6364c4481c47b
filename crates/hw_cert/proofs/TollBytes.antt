-- Which bytes blocks, prices and bounds lack.
use Rattle.std.proofs.Common.{◌≡◌, ◌==◌, ◌≤◌, ◌<◌, ◌-◌, ◌^◌, not, ℕ, true, List, [], ◌∷◌, ◌++◌, map, decimal, refl, arith}
use Rattle.std.proofs.lemmas.Bool.{and_parts, leb-true}
use Rattle.std.proofs.lemmas.Fmt.{digits_decimal}
use Rattle.std.specs.List.{list_all, flat_map}
use Rattle.hw_text.specs.Parts.{lacks}
use Rattle.hw_text.proofs.Digits.{own}
use Rattle.hw_price_laws.specs.declared.toll.Block.{Block}
use Rattle.hw_price_laws.specs.declared.tariff.Due.{Due}
use Rattle.hw_cert.specs.Texts.{block_text, price_text}
use Rattle.hw_cert.specs.Laws.{block_numbers, is_small, is_wide}
use Rattle.hw_cert.proofs.WordBytes.{both_on, differs, digits_lack, number_lacks, lacks_append, two_small, small_parts}

pub wide_lacks : (c n : ℕ) → c < 48 → is_wide n ≡ true → lacks c (decimal n) ≡ true
wide_lacks c n lt s = let le : n ≤ 2 ^ 64 - 1 = leb-true n (2 ^ 64 - 1) s in digits_lack c (decimal n) lt (digits_decimal own n (omega (arith, le)))

colon_after : (c : ℕ) (xs ys : List ℕ) → c < 46 → lacks c xs ≡ true → lacks c ys ≡ true → lacks c (xs ++ 58 ∷ ys) ≡ true
colon_after c xs ys lt p q = lacks_append c xs (58 ∷ ys) p (both_on (not (58 == c)) (lacks c ys) (differs 58 c (omega arith)) q)

block_lacks : (c : ℕ) (block : Block) → c < 46 → list_all is_small (block_numbers block) ≡ true → lacks c (block_text block) ≡ true
block_lacks c block lt h =
    let p = and_parts (is_small block.ship) (list_all is_small (block.low ∷ block.high ∷ [])) h in
    let q = two_small block.low block.high p.1 in
    colon_after c (decimal block.ship) (decimal block.low ++ 58 ∷ decimal block.high) lt (number_lacks c block.ship (omega arith) p.0)
    (colon_after c (decimal block.low) (decimal block.high) lt (number_lacks c block.low (omega arith) q.0) (number_lacks c block.high (omega arith) q.1))

pub blocks_lack : (c : ℕ) (bs : List Block) → c < 46 → list_all is_small (flat_map block_numbers bs) ≡ true → list_all (lacks c) (map block_text bs) ≡ true
blocks_lack c [] lt h = refl
blocks_lack c (b ∷ bs) lt h = let p = small_parts (block_numbers b) (flat_map block_numbers bs) h in both_on (lacks c (block_text b)) (list_all (lacks c) (map block_text bs)) (block_lacks c b lt p.0) (blocks_lack c bs lt p.1)

pub prices_lack : (c : ℕ) (dues : List Due) → c < 46 → list_all is_small (map (λ (due : Due). due.toll) dues) ≡ true → list_all is_wide (map (λ (due : Due). due.price) dues) ≡ true → list_all (lacks c) (map price_text dues) ≡ true
prices_lack c [] lt s w = refl
prices_lack c (due ∷ dues) lt s w =
    let p = and_parts (is_small due.toll) (list_all is_small (map (λ (one : Due). one.toll) dues)) s in
    let q = and_parts (is_wide due.price) (list_all is_wide (map (λ (one : Due). one.price) dues)) w in
    both_on (lacks c (price_text due)) (list_all (lacks c) (map price_text dues))
    (colon_after c (decimal due.toll) (decimal due.price) lt (number_lacks c due.toll (omega arith) p.0) (wide_lacks c due.price (omega arith) q.0)) (prices_lack c dues lt p.1 q.1)
