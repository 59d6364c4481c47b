-- The words of blocks, prices and bounds: which bytes they lack, and that each is read as what it is the text of.
use Rattle.std.proofs.Common.{◌≡◌, ◌==◌, ◌≤◌, ◌-◌, ◌^◌, not, ℕ, true, List, [], ◌∷◌, ◌++◌, map, decimal, Option, Some, refl, sym, ap, ◌∙◌, subst, arith}
use Rattle.std.proofs.lemmas.Bool.{and_parts, leb-true, le-leb}
use Rattle.std.proofs.lemmas.Bool.Decides.{nat_tests}
use Rattle.std.proofs.lemmas.Fmt.{digits_decimal}
use Rattle.std.proofs.lemmas.List.Folds.{list_all-append}
use Rattle.std.proofs.lemmas.List.Splits.{join_with_byte-slice_split}
use Rattle.std.specs.Prelude.{nat_le, option_map}
use Rattle.std.specs.List.{list_all, flat_map, join_with_byte}
use Rattle.hw_text.specs.Numbers.{is_digit}
use Rattle.hw_text.specs.Parts.{lacks, parts_of, put_first}
use Rattle.hw_text.proofs.Digits.{own}
use Rattle.hw_text.proofs.Joins.{one_part, part_before}
use Rattle.hw_text.proofs.Spelled.{is_spelled, reads_back}
use Rattle.hw_price_laws.specs.declared.toll.Block.{Block}
use Rattle.hw_price_laws.specs.declared.tariff.Due.{Due}
use Rattle.hw_cert.specs.Texts.{block_text, price_text}
use Rattle.hw_cert.specs.Spelled.{number_word, wide_word, both_values, all_of, block_parts, block_word, price_parts, price_word}
use Rattle.hw_cert.specs.Laws.{block_numbers, is_small, is_wide}
use Rattle.hw_cert.proofs.WordBytes.{both_on, small_is, small_parts}
use Rattle.hw_cert.proofs.ReadBack.{mapped, paired, put_back, number_back}
use Rattle.hw_cert.proofs.NumberText.{number_again}

wide_is : (n : ℕ) → is_wide n ≡ true → n ≤ 2 ^ 64 - 1
wide_is n h = leb-true n (2 ^ 64 - 1) h

-- ---- no digit is a colon

not_colon : (d : ℕ) → d ≤ 57 → not (d == 58) ≡ true
not_colon d le = grind (arith, nat_tests)

digits_uncut : (ds : List ℕ) → list_all is_digit ds ≡ true → lacks 58 ds ≡ true
digits_uncut [] h = refl
digits_uncut (d ∷ ds) h =
    let p = and_parts (is_digit d) (list_all is_digit ds) h in
    both_on (not (d == 58)) (lacks 58 ds) (not_colon d (leb-true d 57 (and_parts (nat_le 48 d) (nat_le d 57) p.0).1)) (digits_uncut ds p.1)

small_uncut : (n : ℕ) → is_small n ≡ true → lacks 58 (decimal n) ≡ true
small_uncut n s = let le : n ≤ 2 ^ 32 - 1 = small_is n s in digits_uncut (decimal n) (digits_decimal own n (omega (arith, le)))

wide_uncut : (n : ℕ) → is_wide n ≡ true → lacks 58 (decimal n) ≡ true
wide_uncut n s = let le : n ≤ 2 ^ 64 - 1 = wide_is n s in digits_uncut (decimal n) (digits_decimal own n (omega (arith, le)))

-- ---- what reads is the text

pub wide_back : (w : List ℕ) (n : ℕ) → wide_word w ≡ Some n → (w ≡ decimal n) × (is_wide n ≡ true)
wide_back w n h = let p = is_spelled (2 ^ 64 - 1) w n (omega arith) h in (p.0, le-leb n (2 ^ 64 - 1) p.1)

-- three words are those of a block
abbrev AreBlock : List (List ℕ) → Block → Type 0
AreBlock ps block = (ps ≡ decimal block.ship ∷ decimal block.low ∷ decimal block.high ∷ []) × (list_all is_small (block_numbers block) ≡ true)

block_parts_back : (ps : List (List ℕ)) (block : Block) → block_parts ps ≡ Some block → AreBlock ps block
block_parts_back [] block h = absurd cc
block_parts_back (x ∷ []) block h = absurd cc
block_parts_back (x ∷ y ∷ []) block h = absurd cc
block_parts_back (x ∷ y ∷ z ∷ []) block h =
    let made : ℕ × (ℕ × ℕ) → Block = λ q. record { ship = q.0; low = q.1.0; high = q.1.1 } in
    let p = mapped made (both_values (number_word x) (both_values (number_word y) (number_word z))) block h in
    let a = paired (number_word x) (both_values (number_word y) (number_word z)) p.0 p.1 in
    let b = paired (number_word y) (number_word z) p.0.1 a.1 in
    let first = number_back x p.0.0 a.0 in
    let second = number_back y p.0.1.0 b.0 in
    let third = number_back z p.0.1.1 b.1 in
    subst (AreBlock (x ∷ y ∷ z ∷ [])) p.2 (
      ap (λ (v : List ℕ). v ∷ y ∷ z ∷ []) first.0 ∙ ap (λ (v : List ℕ). decimal p.0.0 ∷ v ∷ z ∷ []) second.0 ∙ ap (λ (v : List ℕ). decimal p.0.0 ∷ decimal p.0.1.0 ∷ v ∷ []) third.0,
      both_on (is_small p.0.0) _ first.1 (both_on (is_small p.0.1.0) _ second.1 (both_on (is_small p.0.1.1) true third.1 refl)),
    )
block_parts_back (x ∷ y ∷ z ∷ v ∷ vs) block h = absurd cc

block_back : (w : List ℕ) (block : Block) → block_word w ≡ Some block → (w ≡ block_text block) × (list_all is_small (block_numbers block) ≡ true)
block_back w block h =
    let p = block_parts_back (parts_of 58 w) block h in
    (sym (join_with_byte-slice_split 58 w) ∙ ap (join_with_byte 58) p.0, p.1)

pub blocks_back : (ws : List (List ℕ)) (bs : List Block) → all_of block_word ws ≡ Some bs → (ws ≡ map block_text bs) × (list_all is_small (flat_map block_numbers bs) ≡ true)
blocks_back [] bs h = let e : [] ≡ bs = cc in (ap (map block_text) e, ap (λ (xs : List Block). list_all is_small (flat_map block_numbers xs)) (sym e))
blocks_back (w ∷ ws) bs h =
    let p = put_back (block_word w) (all_of block_word ws) bs h in
    let b = block_back w p.0 p.2 in
    let r = blocks_back ws p.1 p.3 in
    let words : w ∷ ws ≡ map block_text (p.0 ∷ p.1) = ap (λ (v : List ℕ). v ∷ ws) b.0 ∙ ap (λ (vs : List (List ℕ)). block_text p.0 ∷ vs) r.0 in
    let small : list_all is_small (flat_map block_numbers (p.0 ∷ p.1)) ≡ true = list_all-append is_small (block_numbers p.0) (flat_map block_numbers p.1) ∙ both_on (list_all is_small (block_numbers p.0)) (list_all is_small (flat_map block_numbers p.1)) b.1 r.1 in
    (words ∙ ap (map block_text) (sym p.4), ap (λ (xs : List Block). list_all is_small (flat_map block_numbers xs)) p.4 ∙ small)

-- two words are those of a price
abbrev ArePrice : List (List ℕ) → Due → Type 0
ArePrice ps due = (ps ≡ decimal due.toll ∷ decimal due.price ∷ []) × (is_small due.toll ≡ true) × (is_wide due.price ≡ true)

price_parts_back : (ps : List (List ℕ)) (due : Due) → price_parts ps ≡ Some due → ArePrice ps due
price_parts_back [] due h = absurd cc
price_parts_back (x ∷ []) due h = absurd cc
price_parts_back (x ∷ y ∷ []) due h =
    let made : ℕ × ℕ → Due = λ q. record { toll = q.0; price = q.1 } in
    let p = mapped made (both_values (number_word x) (wide_word y)) due h in
    let a = paired (number_word x) (wide_word y) p.0 p.1 in
    let first = number_back x p.0.0 a.0 in
    let second = wide_back y p.0.1 a.1 in
    subst (ArePrice (x ∷ y ∷ [])) p.2 (ap (λ (v : List ℕ). v ∷ y ∷ []) first.0 ∙ ap (λ (v : List ℕ). decimal p.0.0 ∷ v ∷ []) second.0, first.1, second.1)
price_parts_back (x ∷ y ∷ z ∷ zs) due h = absurd cc

price_back : (w : List ℕ) (due : Due) → price_word w ≡ Some due → (w ≡ price_text due) × (is_small due.toll ≡ true) × (is_wide due.price ≡ true)
price_back w due h =
    let p = price_parts_back (parts_of 58 w) due h in
    (sym (join_with_byte-slice_split 58 w) ∙ ap (join_with_byte 58) p.0, p.1, p.2)

-- words are those of prices
pub record ArePrices (ws : List (List ℕ)) (dues : List Due) : Type 0 where
  pub words : ws ≡ map price_text dues
  pub small : list_all is_small (map (λ (due : Due). due.toll) dues) ≡ true
  pub wide : list_all is_wide (map (λ (due : Due). due.price) dues) ≡ true

pub prices_back : (ws : List (List ℕ)) (dues : List Due) → all_of price_word ws ≡ Some dues → ArePrices ws dues
prices_back [] dues h = let e : [] ≡ dues = cc in subst (ArePrices []) e (record { words = refl; small = refl; wide = refl })
prices_back (w ∷ ws) dues h =
    let p = put_back (price_word w) (all_of price_word ws) dues h in
    let b = price_back w p.0 p.2 in
    let r = prices_back ws p.1 p.3 in
    subst (ArePrices (w ∷ ws)) (sym p.4) (record {
      words = ap (λ (v : List ℕ). v ∷ ws) b.0 ∙ ap (λ (vs : List (List ℕ)). price_text p.0 ∷ vs) r.words;
      small = both_on (is_small p.0.toll) (list_all is_small (map (λ (due : Due). due.toll) p.1)) b.1 r.small;
      wide = both_on (is_wide p.0.price) (list_all is_wide (map (λ (due : Due). due.price) p.1)) b.2 r.wide;
    })

-- ---- the text reads back

pub wide_again : (n : ℕ) → is_wide n ≡ true → wide_word (decimal n) ≡ Some n
wide_again n s = let le : n ≤ 2 ^ 64 - 1 = wide_is n s in reads_back (2 ^ 64 - 1) n (omega arith) le

three_small : (x y z : ℕ) → list_all is_small (x ∷ y ∷ z ∷ []) ≡ true → (is_small x ≡ true) × (is_small y ≡ true) × (is_small z ≡ true)
three_small x y z h =
    let p = and_parts (is_small x) (list_all is_small (y ∷ z ∷ [])) h in
    let q = and_parts (is_small y) (list_all is_small (z ∷ [])) p.1 in
    (p.0, q.0, (and_parts (is_small z) true q.1).0)

block_again : (block : Block) → list_all is_small (block_numbers block) ≡ true → block_word (block_text block) ≡ Some block
block_again block h =
    let s = three_small block.ship block.low block.high h in
    let made : Option (ℕ × (ℕ × ℕ)) → Option Block = option_map (λ q. record { ship = q.0; low = q.1.0; high = q.1.1 }) in
    ap block_parts (
    part_before 58 (decimal block.ship) (decimal block.low ++ 58 ∷ decimal block.high) (small_uncut block.ship s.0)
    ∙ ap (λ (ps : List (List ℕ)). decimal block.ship ∷ ps) (part_before 58 (decimal block.low) (decimal block.high) (small_uncut block.low s.1)
    ∙ ap (λ (ps : List (List ℕ)). decimal block.low ∷ ps) (one_part 58 (decimal block.high) (small_uncut block.high s.2)))
    )
    ∙ ap (λ (o : Option ℕ). made (both_values o (both_values (number_word (decimal block.low)) (number_word (decimal block.high))))) (number_again block.ship s.0)
    ∙ ap (λ (o : Option ℕ). made (both_values (Some block.ship) (both_values o (number_word (decimal block.high))))) (number_again block.low s.1)
    ∙ ap (λ (o : Option ℕ). made (both_values (Some block.ship) (both_values (Some block.low) o))) (number_again block.high s.2)

pub blocks_again : (bs : List Block) → list_all is_small (flat_map block_numbers bs) ≡ true → all_of block_word (map block_text bs) ≡ Some bs
blocks_again [] h = refl
blocks_again (b ∷ bs) h =
    let p = small_parts (block_numbers b) (flat_map block_numbers bs) h in
    ap (λ (o : Option Block). put_first o (all_of block_word (map block_text bs))) (block_again b p.0) ∙ ap (put_first (Some b)) (blocks_again bs p.1)

price_again : (due : Due) → is_small due.toll ≡ true → is_wide due.price ≡ true → price_word (price_text due) ≡ Some due
price_again due s w =
    let made : Option (ℕ × ℕ) → Option Due = option_map (λ q. record { toll = q.0; price = q.1 }) in
    ap price_parts (
    part_before 58 (decimal due.toll) (decimal due.price) (small_uncut due.toll s)
    ∙ ap (λ (ps : List (List ℕ)). decimal due.toll ∷ ps) (one_part 58 (decimal due.price) (wide_uncut due.price w))
    )
    ∙ ap (λ (o : Option ℕ). made (both_values o (wide_word (decimal due.price)))) (number_again due.toll s)
    ∙ ap (λ (o : Option ℕ). made (both_values (Some due.toll) o)) (wide_again due.price w)

pub prices_again : (dues : List Due) → list_all is_small (map (λ (due : Due). due.toll) dues) ≡ true → list_all is_wide (map (λ (due : Due). due.price) dues) ≡ true → all_of price_word (map price_text dues) ≡ Some dues
prices_again [] s w = refl
prices_again (due ∷ dues) s w =
    let p = and_parts (is_small due.toll) (list_all is_small (map (λ (one : Due). one.toll) dues)) s in
    let q = and_parts (is_wide due.price) (list_all is_wide (map (λ (one : Due). one.price) dues)) w in
    ap (λ (o : Option Due). put_first o (all_of price_word (map price_text dues))) (price_again due p.0 q.0) ∙ ap (put_first (Some due)) (prices_again dues p.1 q.1)
