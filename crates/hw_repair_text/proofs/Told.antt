-- What the text says of moved ships and of cargo.
use Rattle.std.proofs.Common.{◌≡◌, ◌==◌, ◌∙◌, ℕ, ◌+◌, ◌-◌, Bool, true, false, not, cond, List, [], ◌∷◌, Option, Some, None, length, map, zip, count_by, unwrap_or, ap, refl, sym, arith}
use Rattle.std.proofs.lemmas.Bool.{eq-eqb, ne_eqb}
use Rattle.std.proofs.lemmas.List.Recursion.{is_count_by}
use Rattle.std.proofs.lemmas.Option.{same_Some}
use Rattle.hw_lemmas.proofs.Truths.{absurd_false}
use Rattle.hw_model.specs.Problem.{Problem, value_at}
use Rattle.hw_flat.specs.Carried.{worth}
use Rattle.hw_model.specs.Timetables.{plus, cargo_from}
use Rattle.hw_repair.specs.declared.plan.Wish.{Wish}
use Rattle.hw_repair.specs.Wishes.{wished, moves_from_wish}
use Rattle.hw_repair_text.specs.declared.fate.Fate.{Fate}
use Rattle.hw_repair_text.specs.declared.fate.Fate.TheVariants.{Moved, Kept, Sailed}
use Rattle.hw_repair_text.specs.Fates.{fate, fates, wish_has_sailed, is_moved, worths}
use Rattle.hw_repair_text.specs.Laws.{EachIsMoved, SumsAreCargo, TotalIsOfChanges, ValueOrNothing, won, lost}

-- ---- moved ships

-- a ship's fate by two tests
abbrev by_tests : Bool → Bool → Fate
by_tests same sailed = cond (not same) Moved (cond sailed Sailed Kept)

told_moved : (same sailed : Bool) → by_tests same sailed ≡ Moved → same ≡ false
told_moved true true e = absurd cc
told_moved true false e = absurd cc
told_moved false sailed e = refl

is_told : (same sailed : Bool) → is_moved (by_tests same sailed) ≡ not same
is_told true true = refl
is_told true false = refl
is_told false sailed = refl

moved_is : (f : Problem) (wish : Wish) (slot : ℕ) → is_moved (fate f wish slot) ≡ moves_from_wish (wish, slot)
moved_is f wish slot = is_told (slot == wished wish) (wish_has_sailed f wish)

-- ---- how many

count : {A : Type 0} → (A → Bool) → List A → ℕ
count test [] = 0
count test (x ∷ xs) = cond (test x) (1 + count test xs) (count test xs)

count_is : {A : Type 0} (test : A → Bool) (xs : List A) → count test xs ≡ count_by test xs
unfolding count
count_is test xs = is_count_by (count test) test refl (λ x xs. refl) xs

counted : (f : Problem) (plan : List Wish) (table : List ℕ) → count is_moved (fates f plan table) ≡ count moves_from_wish (zip plan table)
unfolding count
counted f [] [] = refl
counted f [] (slot ∷ table) = refl
counted f (wish ∷ plan) [] = refl
counted f (wish ∷ plan) (slot ∷ table) = ap (λ b. cond b (1 + count is_moved (fates f plan table)) (count is_moved (fates f plan table))) (moved_is f wish slot) ∙ ap (λ n. cond (moves_from_wish (wish, slot)) (1 + n) n) (counted f plan table)

pub each_is_moved_law : EachIsMoved
each_is_moved_law f = record {
  each = λ wish slot. (λ e is. absurd_false (slot == wished wish) (told_moved (slot == wished wish) (wish_has_sailed f wish) e) (eq-eqb slot (wished wish) is), λ ne. ap (λ same. by_tests same (wish_has_sailed f wish)) (ne_eqb slot (wished wish) ne));
  many = λ plan table. sym (count_is is_moved (fates f plan.wishes table)) ∙ counted f plan.wishes table ∙ count_is moves_from_wish (zip plan.wishes table);
}

-- ---- cargo

plus_is : (o p : Option ℕ) (w c : ℕ) → ((d : ℕ) → p ≡ Some d → w ≡ d) → plus o p ≡ Some c → unwrap_or o 0 + w ≡ c
plus_is None p w c h e = absurd cc
plus_is (Some a) None w c h e = absurd cc
plus_is (Some a) (Some b) w c h e = ap (λ n. a + n) (h b refl) ∙ same_Some (a + b) c e

sums : (f : Problem) (ship : ℕ) (slots : List ℕ) (c : ℕ) → cargo_from f ship slots ≡ Some c → worths f ship slots ≡ c
sums f ship [] c e = same_Some 0 c e
sums f ship (slot ∷ slots) c e = plus_is (value_at f ship slot) (cargo_from f (ship + 1) slots) (worths f (ship + 1) slots) c (λ d. sums f (ship + 1) slots d) e

pub sums_are_cargo_law : SumsAreCargo
sums_are_cargo_law f table c e = sums f 0 table c e

one_more : (old new a b w l : ℕ) → a + w ≡ b + l → (old + a) + ((new - old) + w) ≡ (new + b) + ((old - new) + l)
one_more old new a b w l e = omega (arith, e)

totals : (f : Problem) (ship : ℕ) (plan : List Wish) (table : List ℕ) → length plan ≡ length table → worths f ship (map wished plan) + won f ship plan table ≡ worths f ship table + lost f ship plan table
totals f ship [] [] same = refl
totals f ship [] (slot ∷ table) same = absurd (omega (arith, same))
totals f ship (wish ∷ plan) [] same = absurd (omega (arith, same))
totals f ship (wish ∷ plan) (slot ∷ table) same = one_more (worth f ship (wished wish)) (worth f ship slot) (worths f (ship + 1) (map wished plan)) (worths f (ship + 1) table) (won f (ship + 1) plan table) (lost f (ship + 1) plan table) (totals f (ship + 1) plan table (omega (arith, same)))

pub total_is_of_changes_law : TotalIsOfChanges
total_is_of_changes_law f plan table same = totals f 0 plan table same

pub value_or_nothing_law : ValueOrNothing
value_or_nothing_law f ship slot = record {
  value = λ c e. ap (λ o. unwrap_or o 0) e;
  nothing = λ e. ap (λ o. unwrap_or o 0) e;
}
