-- What reads as a line is the text of that line.
use Rattle.std.proofs.Common.{◌≡◌, ◌==◌, ◌-◌, ◌^◌, ◌&&◌, nat_lt, cond, ℕ, Bool, true, false, List, [], ◌∷◌, ◌++◌, length, map, decimal, Option, Some, None, refl, sym, ap, ◌∙◌, subst, arith, inl, inr}
use Rattle.std.proofs.lemmas.Bool.{eqb-true, le-leb}
use Rattle.std.proofs.lemmas.List.Folds.{list_all-append}
use Rattle.std.proofs.lemmas.List.Splits.{join_with_byte-slice_split}
use Rattle.std.proofs.lemmas.Slice.Eq.{bytes_eq-Decides}
use Rattle.std.specs.Prelude.{codes, option_map, option_and_then, bytes_eq}
use Rattle.std.specs.List.{list_all, flat_map, join_with_byte}
use Rattle.hw_lemmas.proofs.Truths.{chosen}
use Rattle.hw_model.specs.declared.lit.Lit.{Lit}
use Rattle.hw_model.specs.declared.lit.Lit.TheVariants.{AtOrAfter, Before, First, NotFirst}
use Rattle.hw_text.specs.Parts.{parts_of, put_first}
use Rattle.hw_text.proofs.Spelled.{is_spelled}
use Rattle.hw_cert.specs.Texts.{pair_text, lit_text}
use Rattle.hw_cert.specs.Spelled.{number_word, both_values, all_numbers, some_of, some_numbers, number_pair, lettered, lit_word, Lits, put_lit, lits_of}
use Rattle.hw_cert.specs.Laws.{lit_numbers, is_small}
use Rattle.hw_cert.proofs.WordBytes.{both_on}

pub mapped : {A B : Type 0} (f : A → B) (o : Option A) (y : B) → option_map f o ≡ Some y → (x : A) × (o ≡ Some x) × (f x ≡ y)
mapped f None y h = absurd cc
mapped f (Some x) y h = (x, refl, cc)

pub chained : {A B : Type 0} (f : A → Option B) (o : Option A) (y : B) → option_and_then f o ≡ Some y → (x : A) × (o ≡ Some x) × (f x ≡ Some y)
chained f None y h = absurd cc
chained f (Some x) y h = (x, refl, h)

pub paired : {A B : Type 0} (a : Option A) (b : Option B) (p : A × B) → both_values a b ≡ Some p → (a ≡ Some p.0) × (b ≡ Some p.1)
paired None b p h = absurd cc
paired (Some x) None p h = absurd cc
paired {A = A} {B = B} (Some x) (Some y) p h = let e : (x, y) ≡ p = cc in (ap (λ (q : A × B). Some q.0) e, ap (λ (q : A × B). Some q.1) e)

pub put_back : {A : Type 0} (a : Option A) (b : Option (List A)) (all : List A) → put_first a b ≡ Some all → (x : A) × (xs : List A) × (a ≡ Some x) × (b ≡ Some xs) × (all ≡ x ∷ xs)
put_back None b all h = absurd cc
put_back (Some x) None all h = absurd cc
put_back (Some x) (Some xs) all h = (x, xs, refl, refl, cc)

pub number_back : (w : List ℕ) (n : ℕ) → number_word w ≡ Some n → (w ≡ decimal n) × (is_small n ≡ true)
number_back w n h = let p = is_spelled (2 ^ 32 - 1) w n (omega arith) h in (p.0, le-leb n (2 ^ 32 - 1) p.1)

pub numbers_back : (ws : List (List ℕ)) (ns : List ℕ) → all_numbers ws ≡ Some ns → (ws ≡ map decimal ns) × (list_all is_small ns ≡ true)
numbers_back [] ns h = let e : [] ≡ ns = cc in (ap (map decimal) e, ap (list_all is_small) (sym e))
numbers_back (w ∷ ws) ns h =
    let p = put_back (number_word w) (all_numbers ws) ns h in
    let n = number_back w p.0 p.2 in
    let r = numbers_back ws p.1 p.3 in
    let words : w ∷ ws ≡ map decimal (p.0 ∷ p.1) = ap (λ (v : List ℕ). v ∷ ws) n.0 ∙ ap (λ (vs : List (List ℕ)). decimal p.0 ∷ vs) r.0 in
    let small : list_all is_small (p.0 ∷ p.1) ≡ true = both_on (is_small p.0) (list_all is_small p.1) n.1 r.1 in
    (words ∙ ap (map decimal) (sym p.4), ap (list_all is_small) p.4 ∙ small)

pub some_back : (ws : List (List ℕ)) (ns : List ℕ) → some_numbers ws ≡ Some ns → (ws ≡ map decimal ns) × (list_all is_small ns ≡ true)
some_back ws ns h =
    let p = chained some_of (all_numbers ws) ns h in
    numbers_back ws ns (p.1 ∙ kept (nat_lt 0 (length p.0)) p.0 p.2)
  where
    kept : (b : Bool) (ms : List ℕ) → cond b (Some ms) None ≡ Some ns → Some ms ≡ Some ns
    kept true ms e = e
    kept false ms e = absurd cc

pair_back : (ps : List (List ℕ)) (p : ℕ × ℕ) → number_pair ps ≡ Some p → (ps ≡ decimal p.0 ∷ decimal p.1 ∷ []) × (list_all is_small (p.0 ∷ p.1 ∷ []) ≡ true)
pair_back [] p h = absurd cc
pair_back (x ∷ []) p h = absurd cc
pair_back (x ∷ y ∷ []) p h =
    let q = paired (number_word x) (number_word y) p h in
    let a = number_back x p.0 q.0 in
    let b = number_back y p.1 q.1 in
    (ap (λ (v : List ℕ). v ∷ y ∷ []) a.0 ∙ ap (λ (v : List ℕ). decimal p.0 ∷ v ∷ []) b.0, both_on (is_small p.0) (is_small p.1 && true) a.1 (both_on (is_small p.1) true b.1 refl))
pair_back (x ∷ y ∷ z ∷ zs) p h = absurd cc

-- a letter and two numbers are the literal's text
abbrev pub IsLit : ℕ → ℕ × ℕ → Lit → Type 0
IsLit letter p lit = (letter ∷ pair_text p.0 p.1 ≡ lit_text lit) × (lit_numbers lit ≡ p.0 ∷ p.1 ∷ [])

lettered_back : (letter : ℕ) (p : ℕ × ℕ) (lit : Lit) → lettered letter p ≡ Some lit → IsLit letter p lit
lettered_back letter p lit h = elim (chosen (letter == 97) (Some (AtOrAfter p.0 p.1)) (cond (letter == 98) (Some (Before p.0 p.1)) (cond (letter == 102) (Some (First p.0 p.1)) (cond (letter == 110) (Some (NotFirst p.0 p.1)) None))) (Some lit) h) [
  | inl a ↦ let e : AtOrAfter p.0 p.1 ≡ lit = cc in subst (IsLit letter p) e (ap (λ (l : ℕ). l ∷ pair_text p.0 p.1) (eqb-true letter 97 a.0), refl)
  | inr a ↦ elim (chosen (letter == 98) (Some (Before p.0 p.1)) (cond (letter == 102) (Some (First p.0 p.1)) (cond (letter == 110) (Some (NotFirst p.0 p.1)) None)) (Some lit) a.1) [
    | inl b ↦ let e : Before p.0 p.1 ≡ lit = cc in subst (IsLit letter p) e (ap (λ (l : ℕ). l ∷ pair_text p.0 p.1) (eqb-true letter 98 b.0), refl)
    | inr b ↦ elim (chosen (letter == 102) (Some (First p.0 p.1)) (cond (letter == 110) (Some (NotFirst p.0 p.1)) None) (Some lit) b.1) [
      | inl d ↦ let e : First p.0 p.1 ≡ lit = cc in subst (IsLit letter p) e (ap (λ (l : ℕ). l ∷ pair_text p.0 p.1) (eqb-true letter 102 d.0), refl)
      | inr d ↦ elim (chosen (letter == 110) (Some (NotFirst p.0 p.1)) None (Some lit) d.1) [
        | inl f ↦ let e : NotFirst p.0 p.1 ≡ lit = cc in subst (IsLit letter p) e (ap (λ (l : ℕ). l ∷ pair_text p.0 p.1) (eqb-true letter 110 f.0), refl)
        | inr f ↦ absurd (nothing f.1)
      ]
    ]
  ]
]
  where
    nothing : None ≡ Some lit → ⊥
    nothing e = cc

lit_back : (w : List ℕ) (lit : Lit) → lit_word w ≡ Some lit → (w ≡ lit_text lit) × (list_all is_small (lit_numbers lit) ≡ true)
lit_back [] lit h = absurd cc
lit_back (letter ∷ rest) lit h =
    let p = chained (lettered letter) (number_pair (parts_of 46 rest)) lit h in
    let q = pair_back (parts_of 46 rest) p.0 p.1 in
    let l = lettered_back letter p.0 lit p.2 in
    let text : rest ≡ pair_text p.0.0 p.0.1 = sym (join_with_byte-slice_split 46 rest) ∙ ap (join_with_byte 46) q.0 in
    (ap (λ (bs : List ℕ). letter ∷ bs) text ∙ l.0, ap (list_all is_small) l.1 ∙ q.1)

-- the words after literals
abbrev pub remainder_words : Option (List (List ℕ)) → List (List ℕ)
remainder_words None = []
remainder_words (Some ws) = codes ";" ∷ ws

-- words that are literals, and what follows them
pub record AreLits (ws : List (List ℕ)) (found : Lits) : Type 0 where
  pub words : ws ≡ map lit_text found.lits ++ remainder_words found.remainder
  pub small : list_all is_small (flat_map lit_numbers found.lits) ≡ true

put_lit_back : (a : Option Lit) (b : Option Lits) (found : Lits) → put_lit a b ≡ Some found → (lit : Lit) × (more : Lits) × (a ≡ Some lit) × (b ≡ Some more) × (record { lits = lit ∷ more.lits; remainder = more.remainder } ≡ found)
put_lit_back None b found h = absurd cc
put_lit_back (Some lit) None found h = absurd cc
put_lit_back (Some lit) (Some more) found h = (lit, more, refl, refl, cc)

pub lits_back : (ws : List (List ℕ)) (found : Lits) → lits_of ws ≡ Some found → AreLits ws found
lits_back [] found h =
    let start : Lits = record { lits = []; remainder = None } in
    let e : start ≡ found = cc in
    subst (AreLits []) e (record { words = refl; small = refl })
lits_back (w ∷ ws) found h =
    let parted : Lits = record { lits = []; remainder = Some ws } in
    elim (chosen (bytes_eq w (codes ";")) (Some parted) (put_lit (lit_word w) (lits_of ws)) (Some found) h) [
      | inl a ↦
          let e : parted ≡ found = cc in
          subst (AreLits (w ∷ ws)) e (record { words = ap (λ (v : List ℕ). v ∷ ws) ((bytes_eq-Decides w (codes ";")).0 a.0); small = refl })
      | inr a ↦
          let p = put_lit_back (lit_word w) (lits_of ws) found a.1 in
          let l = lit_back w p.0 p.2 in
          let r = lits_back ws p.1 p.3 in
          subst (AreLits (w ∷ ws)) p.4 (record {
            words = ap (λ (v : List ℕ). v ∷ ws) l.0 ∙ ap (λ (vs : List (List ℕ)). lit_text p.0 ∷ vs) r.words;
            small = list_all-append is_small (lit_numbers p.0) (flat_map lit_numbers p.1.lits) ∙ both_on (list_all is_small (lit_numbers p.0)) (list_all is_small (flat_map lit_numbers p.1.lits)) l.1 r.small;
          })
    ]
