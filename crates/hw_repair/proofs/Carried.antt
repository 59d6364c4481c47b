-- What a timetable carries by the problem of a repair.
use Rattle.std.proofs.Common.{◌≡◌, ◌==◌, ℕ, suc, ◌+◌, ◌*◌, ◌≤◌, Bool, true, false, not, cond, List, [], ◌∷◌, Option, Some, None, option_map, slice_get, count_by, zip, length, refl, sym, ap, ◌∙◌, arith}
use Rattle.std.proofs.lemmas.List.Sums.{count_by-le-length}
use Rattle.std.proofs.lemmas.Option.{same_Some}
use Rattle.std.proofs.lemmas.List.Recursion.{is_count_by}
use Rattle.hw_model.specs.Problem.{Problem, value_at}
use Rattle.hw_model.specs.Timetables.{plus, cargo_from}
use Rattle.hw_repair.specs.declared.plan.Wish.{Wish}
use Rattle.hw_repair.specs.Wishes.{wished, moves_from_wish}
use Rattle.hw_repair.specs.Repaired.{repaired_worth}

-- ---- moved ships, one after the other

count : List (Wish × ℕ) → ℕ
count [] = 0
count (given ∷ more) = cond (moves_from_wish given) (1 + count more) (count more)

count_is : (givens : List (Wish × ℕ)) → count givens ≡ count_by moves_from_wish givens
unfolding count
count_is givens = is_count_by count moves_from_wish refl (λ x xs. refl) givens

count_cons : (given : Wish × ℕ) (more : List (Wish × ℕ)) → count_by moves_from_wish (given ∷ more) ≡ cond (moves_from_wish given) (1 + count_by moves_from_wish more) (count_by moves_from_wish more)
unfolding count
count_cons given more = sym (count_is (given ∷ more)) ∙ ap (λ n. cond (moves_from_wish given) (1 + n) n) (count_is more)

-- how many ships are moved by a list of wishes
abbrev pub moving : List Wish → List ℕ → ℕ
moving plan table = count_by moves_from_wish (zip plan table)

pub few_moved : (plan : List Wish) (table : List ℕ) → length plan ≡ length table → moving plan table ≤ length table
few_moved plan table same = omega (arith, count_by-le-length moves_from_wish (zip plan table), zipped plan table same)
  where
    zipped : (plan : List Wish) (table : List ℕ) → length plan ≡ length table → length (zip plan table) ≡ length table
    zipped [] [] e = refl
    zipped [] (x ∷ xs) e = absurd (omega (arith, e))
    zipped (w ∷ ws) [] e = absurd (omega (arith, e))
    zipped (w ∷ ws) (x ∷ xs) e = ap suc (zipped ws xs (omega (arith, e)))

-- ---- sums

pub record Parts (o p : Option ℕ) (c : ℕ) : Type 0 where
  pub first : ℕ
  pub others : ℕ
  pub is_first : o ≡ Some first
  pub is_others : p ≡ Some others
  pub sum : first + others ≡ c

plus_parts : (o p : Option ℕ) (c : ℕ) → plus o p ≡ Some c → Parts o p c
plus_parts None p c e = absurd cc
plus_parts (Some a) None c e = absurd cc
plus_parts (Some a) (Some b) c e = record { first = a; others = b; is_first = refl; is_others = refl; sum = same_Some (a + b) c e }

-- one more where the ship keeps its slot, and one less moved
kept_or_moved : (b : Bool) (n : ℕ) → cond b 1 0 + cond (not b) (1 + n) n ≡ 1 + n
kept_or_moved true n = omega arith
kept_or_moved false n = omega arith

-- the cargo by the repair, and the moved ships, of the ships from this one on
pub record Carries (r : Problem) (ship times : ℕ) (plan : List Wish) (slots : List ℕ) (c : ℕ) : Type 0 where
  pub sum : ℕ
  pub carried : cargo_from r ship slots ≡ Some sum
  pub counted : sum + moving plan slots ≡ times * c + length slots

step_sum : (times a b c d m one more n : ℕ) → a + b ≡ c → one + more ≡ 1 + m → d + m ≡ times * b + n → (a * times + one) + d + more ≡ times * c + (1 + n)
step_sum times a b c d m one more n e k h =
    let product : times * c ≡ a * times + times * b = ap (λ x. times * x) (sym e) ∙ omega arith in
    omega (arith, product, k, h)

pub carries : (f r : Problem) (ship : ℕ) (plan : List Wish) (slots : List ℕ) (c : ℕ) → length plan ≡ length slots
    → ((i s slot : ℕ) (wish : Wish) → s ≡ ship + i → slice_get plan i ≡ Some wish → slice_get slots i ≡ Some slot → value_at r s slot ≡ option_map (repaired_worth f.ships wish slot) (value_at f s slot))
    → cargo_from f ship slots ≡ Some c → Carries r ship (f.ships + 1) plan slots c
carries f r ship [] [] c same at e =
    let zero' : 0 ≡ c = same_Some 0 c e in
    let none : (f.ships + 1) * c ≡ 0 = ap (λ x. (f.ships + 1) * x) (sym zero') ∙ omega arith in
    record { sum = 0; carried = refl; counted = omega (arith, none) }
carries f r ship [] (x ∷ xs) c same at e = absurd (omega (arith, same))
carries f r ship (w ∷ ws) [] c same at e = absurd (omega (arith, same))
carries f r ship (w ∷ ws) (x ∷ xs) c same at e =
    let parts = plus_parts (value_at f ship x) (cargo_from f (ship + 1) xs) c e in
    let more = carries f r (ship + 1) ws xs parts.others (omega (arith, same)) (λ i s slot wish here p q. at (suc i) s slot wish (omega (arith, here)) p q) parts.is_others in
    let one : ℕ = cond (x == wished w) 1 0 in
    let here : value_at r ship x ≡ Some (parts.first * (f.ships + 1) + one) = at 0 ship x w (omega arith) refl refl ∙ ap (option_map (repaired_worth f.ships w x)) parts.is_first in
    let both : plus (value_at r ship x) (cargo_from r (ship + 1) xs) ≡ Some ((parts.first * (f.ships + 1) + one) + more.sum) = ap (λ o. plus o (cargo_from r (ship + 1) xs)) here ∙ ap (plus (Some (parts.first * (f.ships + 1) + one))) more.carried in
    record {
      sum = (parts.first * (f.ships + 1) + one) + more.sum;
      carried = both;
      counted = ap (λ n. (parts.first * (f.ships + 1) + one) + more.sum + n) (count_cons (w, x) (zip ws xs))
          ∙ (step_sum (f.ships + 1) parts.first parts.others c more.sum (moving ws xs) one (cond (not (x == wished w)) (1 + moving ws xs) (moving ws xs)) (length xs) parts.sum (kept_or_moved (x == wished w) (moving ws xs)) more.counted ∙ omega arith);
    }
