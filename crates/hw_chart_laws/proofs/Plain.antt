-- Texts without marks: digits, letters and what is made of them.
use Rattle.std.proofs.Common.{◌≡◌, ◌<◌, ◌+◌, ◌/◌, ◌%◌, ◌++◌, ◌==◌, ◌∙◌, ℕ, zero, suc, true, false, List, [], ◌∷◌, codes, decimal, refl, arith}
use Rattle.std.specs.Fmt.{digits, digits_onto, digit_glyph}
use Rattle.std.specs.List.{list_all}
use Rattle.std.proofs.lemmas.Bool.{and_from, cond_both, ne_eqb, lt-ltb}
use Rattle.std.proofs.lemmas.List.Folds.{list_all-append}
use Rattle.hw_chart_svg.specs.Figures.{move, moves, steps_begin, steps_end, steps_path}
use Rattle.hw_chart_svg.specs.Shapes.{area_path}
use Rattle.hw_chart_svg.specs.declared.area.Area.{Area}
use Rattle.hw_chart_laws.specs.Trees.{is_plain_byte}

-- no mark stands in a text
pub record Plain (text : List ℕ) : Type 0 where
  pub none : list_all is_plain_byte text ≡ true

pub both : {a b : List ℕ} → Plain a → Plain b → Plain (a ++ b)
both {a = a} {b = b} p q = record { none = list_all-append is_plain_byte a b ∙ and_from _ _ p.none q.none }

pub letters : (a : List ℕ) → list_all is_plain_byte a ≡ true → Plain a
letters a p = record { none = p }

pub nothing : Plain []
nothing = letters [] refl

plain_digit : (d : ℕ) → d < 10 → is_plain_byte (48 + d) ≡ true
plain_digit d lt = rw (ne_eqb (48 + d) 60 (λ e. omega (arith, e, lt)), ne_eqb (48 + d) 62 (λ e. omega (arith, e, lt)), ne_eqb (48 + d) 34 (λ e. omega (arith, e, lt)), ne_eqb (48 + d) 39 (λ e. omega (arith, e, lt)), ne_eqb (48 + d) 38 (λ e. omega (arith, e, lt))) refl

plain_glyph : (n : ℕ) → is_plain_byte (digit_glyph false (n % 10)) ≡ true
plain_glyph n =
    let small : n % 10 < 10 = omega arith in
    rw (lt-ltb (n % 10) 10 small) (plain_digit (n % 10) small)

onto : (k n : ℕ) (acc : List ℕ) → list_all is_plain_byte acc ≡ true → list_all is_plain_byte (digits_onto k 10 false n acc) ≡ true
onto zero n acc h = h
onto (suc k) n acc h =
    let here = and_from _ _ (plain_glyph n) h in
    cond_both (n / 10 == 0) _ _ (λ (text : List ℕ). list_all is_plain_byte text ≡ true) (λ e. here) (λ e. onto k (n / 10) (digit_glyph false (n % 10) ∷ acc) here)

pub number : (n : ℕ) → Plain (decimal n)
unfolding digits
number n = letters _ (onto 64 n [] refl)

pub area : (a : Area) → Plain (area_path a)
unfolding area_path
area a = both (letters (codes "M") refl) (both (number a.left) (both (letters (codes " ") refl) (both (number a.top) (both (letters (codes "H") refl) (both (number a.right) (both (letters (codes "V") refl) (both (number a.bottom) (both (letters (codes "H") refl) (both (number a.left) (letters (codes "z") refl))))))))))

one_move : (slot level : ℕ) → Plain (move slot level)
one_move slot level = both (letters (codes "V") refl) (both (number level) (both (letters (codes "H") refl) (both (number (slot + 1)) nothing)))

all_moves : (level : ℕ → ℕ) (slot count : ℕ) → Plain (moves level slot count)
all_moves level slot zero = nothing
all_moves level slot (suc more) = both (one_move slot (level slot)) (all_moves level (slot + 1) more)

pub path : (level : ℕ → ℕ) (first count base : ℕ) → Plain (steps_path level first count base)
unfolding steps_begin steps_end
path level first count base =
    let begins : Plain (steps_begin first base) = both (letters (codes "M") refl) (both (number first) (both (letters (codes " ") refl) (both (number base) nothing))) in
    let ends : Plain (steps_end base) = both (letters (codes "V") refl) (both (number base) (letters (codes "z") refl)) in
    both begins (both (all_moves level first count) (both ends nothing))
