-- Paths are letters, digits and spaces.
use Rattle.std.proofs.Common.{◌≡◌, ◌<◌, ◌+◌, ◌%◌, ◌^◌, ◌++◌, ◌∙◌, ℕ, zero, suc, true, List, [], ◌∷◌, codes, decimal, refl, arith}
use Rattle.std.specs.List.{list_all}
use Rattle.std.proofs.lemmas.Bool.{and_from, ne_eqb}
use Rattle.std.proofs.lemmas.List.Folds.{list_all-append}
use Rattle.std.proofs.lemmas.Fmt.{decimal_by_steps}
use Rattle.hw_chart_svg.specs.Figures.{move, moves, steps_begin, steps_end, steps_path}
use Rattle.hw_chart_svg.specs.Marks.{is_word}
use Rattle.hw_chart_svg.specs.Shapes.{area_path}
use Rattle.hw_chart_svg.specs.declared.area.Area.{Area}

-- no mark stands in a text
record AreWords (text : List ℕ) : Type 0 where
  pub none : list_all is_word text ≡ true

both : {a b : List ℕ} → AreWords a → AreWords b → AreWords (a ++ b)
both {a = a} {b = b} p q = record { none = list_all-append is_word a b ∙ and_from _ _ p.none q.none }

letters : (a : List ℕ) → list_all is_word a ≡ true → AreWords a
letters a p = record { none = p }

digit : (d : ℕ) → d < 10 → AreWords ((48 + d) ∷ [])
digit d lt = letters _ (rw (ne_eqb (48 + d) 60 (λ e. omega (arith, e, lt)), ne_eqb (48 + d) 62 (λ e. omega (arith, e, lt)), ne_eqb (48 + d) 34 (λ e. omega (arith, e, lt)), ne_eqb (48 + d) 39 (λ e. omega (arith, e, lt))) refl)

number : (n : ℕ) → n < 2 ^ 64 → AreWords (decimal n)
number n fits = decimal_by_steps (λ m ds. AreWords ds) digit (λ m ds ten before. both before (digit (m % 10) (omega arith))) n fits

pub area_is_word : (a : Area) → a.left < 2 ^ 64 → a.right < 2 ^ 64 → a.top < 2 ^ 64 → a.bottom < 2 ^ 64 → list_all is_word (area_path a) ≡ true
unfolding area_path
area_is_word a l r t b =
    let all : AreWords (area_path a) = both (letters (codes "M") refl) (both (number a.left l) (both (letters (codes " ") refl) (both (number a.top t) (both (letters (codes "H") refl) (both (number a.right r) (both (letters (codes "V") refl) (both (number a.bottom b) (both (letters (codes "H") refl) (both (number a.left l) (letters (codes "z") refl)))))))))) in
    all.none

one_move : (slot level : ℕ) → slot + 1 < 2 ^ 64 → level < 2 ^ 64 → AreWords (move slot level)
one_move slot level s l = both (letters (codes "V") refl) (both (number level l) (both (letters (codes "H") refl) (both (number (slot + 1) s) (letters [] refl))))

all_moves : (level : ℕ → ℕ) (slot count : ℕ) → slot + count < 2 ^ 64 → ((k : ℕ) → level k < 2 ^ 64) → AreWords (moves level slot count)
all_moves level slot zero fits levels = letters [] refl
all_moves level slot (suc more) fits levels = both (one_move slot (level slot) (omega (arith, fits)) (levels slot)) (all_moves level (slot + 1) more (omega (arith, fits)) levels)

pub steps_are_words : (level : ℕ → ℕ) (first count base : ℕ) → first + count < 2 ^ 64 → base < 2 ^ 64 → ((k : ℕ) → level k < 2 ^ 64) → list_all is_word (steps_path level first count base) ≡ true
unfolding steps_begin steps_end
steps_are_words level first count base fits below levels =
    let begins : AreWords (steps_begin first base) = both (letters (codes "M") refl) (both (number first (omega (arith, fits))) (both (letters (codes " ") refl) (both (number base below) (letters [] refl)))) in
    let ends : AreWords (steps_end base) = both (letters (codes "V") refl) (both (number base below) (letters (codes "z") refl)) in
    let all : AreWords (steps_path level first count base) = both begins (both (all_moves level first count fits levels) (both ends (letters [] refl))) in
    all.none
