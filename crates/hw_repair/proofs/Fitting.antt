-- A plan that is read fits its problem.
use Rattle.std.proofs.Common.{◌≡◌, inl, inr, ℕ, zero, suc, ◌+◌, ◌*◌, ◌/◌, ◌%◌, ◌<◌, ◌≤◌, Bool, true, false, cond, nat_lt, List, [], ◌∷◌, Option, Some, None, Result, Ok, slice_get, unwrap_or, option_and_then, All, length, get_or, bytes_eq, codes, refl, sym, ap, subst, ◌∙◌, arith}
use Rattle.std.proofs.lemmas.Bool.{ltb-false, or_parts, cases_eq}
use Rattle.std.proofs.lemmas.Option.{same_Some, slice_get-get_or}
use Rattle.std.proofs.lemmas.Nat.{div-add-mod', div_below, mod_below}
use Rattle.std.proofs.lemmas.List.Elements.{All-nil, All-cons, All-from_get_or}
use Rattle.std.specs.List.{list_any, range_with_len}
use Rattle.hw_lemmas.specs.Operators.{◌>>=◌}
use Rattle.hw_plan_texts.specs.Slots.{slot_form}
use Rattle.hw_text.specs.Parts.{words_of}
use Rattle.hw_model.specs.Problem.{Problem, value_at}
use Rattle.hw_model.specs.Limits.{IsFlat}
use Rattle.hw_repair.specs.declared.fault.PlanWord.{PlanWord}
use Rattle.hw_repair.specs.declared.fault.PlanWord.TheVariants as words
use Rattle.hw_repair.specs.declared.plan.Wish.{Wish}
use Rattle.hw_repair.specs.declared.plan.Wish.TheVariants.{Kept, Planned}
use Rattle.hw_repair.specs.Wishes.{PlanParts, WishFits, IsRepairable, PlanFits}
use Rattle.hw_plan_texts.proofs.Reading.{bind_ok, formed_ok, slot_below}
use Rattle.hw_plan_texts.specs.Reading.{MalformedLine, malformed_line, formed_line, formed_line_at}
use Rattle.hw_repair.specs.Text.{kept_by, planned_by, kept_words, planned_words, wish_words, wish_form, is_large, wish_at, wishes_at}

-- ---- a wish

kept_fits : (slots : ℕ) (o : Option ℕ) (wish : Wish) → ((n : ℕ) → o ≡ Some n → n < slots) → kept_by o ≡ Some wish → WishFits slots wish
kept_fits slots None wish below e = absurd cc
kept_fits slots (Some n) wish below e = subst (WishFits slots) (same_Some (Kept n) wish e) (below n refl)

planned_fits : (slots : ℕ) (o p : Option ℕ) (wish : Wish) → ((n : ℕ) → o ≡ Some n → n < slots) → ((n : ℕ) → p ≡ Some n → n < slots) → planned_by o p ≡ Some wish → WishFits slots wish
planned_fits slots None p wish first second e = absurd cc
planned_fits slots (Some n) None wish first second e = absurd cc
planned_fits slots (Some n) (Some m) wish first second e = subst (WishFits slots) (same_Some (Planned n m) wish e) (first n refl, second m refl)

kept_words_fit : (slots : ℕ) (words : List (List ℕ)) (wish : Wish) → 0 < slots → kept_words slots words ≡ Some wish → WishFits slots wish
kept_words_fit slots [] wish some e = absurd cc
kept_words_fit slots (slot ∷ []) wish some e = kept_fits slots (slot_form slots slot) wish (λ n. slot_below slots slot n some) e
kept_words_fit slots (slot ∷ x ∷ xs) wish some e = absurd cc

planned_words_fit : (slots : ℕ) (words : List (List ℕ)) (wish : Wish) → 0 < slots → planned_words slots words ≡ Some wish → WishFits slots wish
planned_words_fit slots [] wish some e = absurd cc
planned_words_fit slots (slot ∷ []) wish some e = absurd cc
planned_words_fit slots (slot ∷ from ∷ []) wish some e = planned_fits slots (slot_form slots slot) (slot_form slots from) wish (λ n. slot_below slots slot n some) (λ n. slot_below slots from n some) e
planned_words_fit slots (slot ∷ from ∷ x ∷ xs) wish some e = absurd cc

by_key : (k o : Bool) (a b : Option Wish) (wish : Wish) (P : Wish → Type 0) → (a ≡ Some wish → P wish) → (b ≡ Some wish → P wish) → cond k a (cond o b None) ≡ Some wish → P wish
by_key true o a b wish P first second e = first e
by_key false true a b wish P first second e = second e
by_key false false a b wish P first second e = absurd cc

words_fit : (slots : ℕ) (words : List (List ℕ)) (wish : Wish) → 0 < slots → wish_words slots words ≡ Some wish → WishFits slots wish
words_fit slots [] wish some e = absurd cc
words_fit slots (key ∷ words) wish some e = by_key (bytes_eq key (codes "k")) (bytes_eq key (codes "o")) (kept_words slots words) (planned_words slots words) wish (WishFits slots) (kept_words_fit slots words wish some) (planned_words_fit slots words wish some) e

-- ---- reading

not_faulty : {A : Type 0} (b : Bool) (number : ℕ) (word : PlanWord) (x y : A) → cond b (malformed_line number word) (Ok x) ≡ Ok y → (b ≡ false) × (x ≡ y)
not_faulty true number word x y e = absurd cc
not_faulty false number word x y e = (refl, cc)

pub record WishRead (f : Problem) (ship : ℕ) (wish : Wish) : Type 0 where
  pub fits : WishFits f.slots wish
  pub small : is_large f ship ≡ false

first_of : (a b : Wish × List (List ℕ)) → a ≡ b → a.0 ≡ b.0
first_of a b e = ap (λ (x : Wish × List (List ℕ)). x.0) e

abbrev after_wish : Problem → ℕ → ℕ → List (List ℕ) → Wish → Result (Wish × List (List ℕ)) (MalformedLine PlanWord)
after_wish f first ship rest wish = cond (is_large f ship) (malformed_line (first + ship) words.Large) (Ok (wish, rest))

abbrev after_line : Problem → ℕ → ℕ → List ℕ × List (List ℕ) → Result (Wish × List (List ℕ)) (MalformedLine PlanWord)
after_line f first ship line = formed_line (first + ship) words.Ship (wish_form f.slots line.0) >>= after_wish f first ship line.1

wish_read : (f : Problem) (first ship : ℕ) (parts : List (List ℕ)) (read : Wish × List (List ℕ)) → 0 < f.slots → wish_at f first ship parts ≡ Ok read → WishRead f ship read.0
unfolding wish_at
wish_read f first ship parts read some e =
    let line = bind_ok (formed_line_at (first + ship) words.Ship parts) (after_line f first ship) read e in
    let wish = bind_ok (formed_line (first + ship) words.Ship (wish_form f.slots line.value.0)) (after_wish f first ship line.value.1) read line.then' in
    let last = not_faulty (is_large f ship) (first + ship) words.Large (wish.value, line.value.1) read wish.then' in
    let form = formed_ok (first + ship) words.Ship (wish_form f.slots line.value.0) wish.value wish.is in
    record {
      fits = subst (WishFits f.slots) (first_of (wish.value, line.value.1) read last.1) (words_fit f.slots (words_of line.value.0) wish.value some form);
      small = last.0;
    }

pub record WishesRead (f : Problem) (ship many : ℕ) (wishes : List Wish) : Type 0 where
  pub each_ship : length wishes ≡ many
  pub each_wish : All (WishFits f.slots) wishes
  pub small : (s : ℕ) → ship ≤ s → s < ship + many → is_large f s ≡ false

parts_equal : (a b : List Wish × List (List ℕ)) → ◌≡◌ {A = Result (List Wish × List (List ℕ)) (MalformedLine PlanWord)} (Ok a) (Ok b) → a.0 ≡ b.0
parts_equal a b e = let p : a ≡ b = cc in ap (λ (x : List Wish × List (List ℕ)). x.0) p

small_more : (f : Problem) (ship many : ℕ) → is_large f ship ≡ false → ((s : ℕ) → ship + 1 ≤ s → s < ship + 1 + many → is_large f s ≡ false) → (s : ℕ) → ship ≤ s → s < ship + suc many → is_large f s ≡ false
small_more f ship many here more s low high = elim (cases_eq ship s) [
  | inl e ↦ subst (λ n. is_large f n ≡ false) e here
  | inr ne ↦ more s (omega (arith, low, ne)) (omega (arith, high))
]

abbrev after_more : Wish → List Wish × List (List ℕ) → Result (List Wish × List (List ℕ)) (MalformedLine PlanWord)
after_more wish more = Ok (wish ∷ more.0, more.1)

abbrev after_first : Problem → ℕ → ℕ → ℕ → Wish × List (List ℕ) → Result (List Wish × List (List ℕ)) (MalformedLine PlanWord)
after_first f first ship many wish = wishes_at f first (ship + 1) many wish.1 >>= after_more wish.0

pub wishes_read : (f : Problem) (first ship many : ℕ) (parts : List (List ℕ)) (read : List Wish × List (List ℕ)) → 0 < f.slots → wishes_at f first ship many parts ≡ Ok read → WishesRead f ship many read.0
unfolding wishes_at
wishes_read f first ship zero parts read some e =
    let none : [] ≡ read.0 = parts_equal ([], parts) read e in
    record {
      each_ship = ap length (sym none);
      each_wish = subst (All (WishFits f.slots)) none (All-nil (WishFits f.slots));
      small = λ s low high. absurd (omega (arith, low, high));
    }
wishes_read f first ship (suc many) parts read some e =
    let wish = bind_ok (wish_at f first ship parts) (after_first f first ship many) read e in
    let more = bind_ok (wishes_at f first (ship + 1) many wish.value.1) (after_more wish.value.0) read wish.then' in
    let one = wish_read f first ship parts wish.value some wish.is in
    let rest = wishes_read f first (ship + 1) many wish.value.1 more.value some more.is in
    let all : wish.value.0 ∷ more.value.0 ≡ read.0 = parts_equal (wish.value.0 ∷ more.value.0, more.value.1) read more.then' in
    record {
      each_ship = ap length (sym all) ∙ ap suc rest.each_ship;
      each_wish = subst (All (WishFits f.slots)) all (All-cons (WishFits f.slots) wish.value.0 more.value.0 one.fits rest.each_wish);
      small = small_more f ship many one.small rest.small;
    }

-- ---- values that can be repaired

none_any : (p : ℕ → Bool) (a n k : ℕ) → list_any p (range_with_len a n) ≡ false → a ≤ k → k < a + n → p k ≡ false
none_any p a zero k e low high = absurd (omega (arith, low, high))
none_any p a (suc n) k e low high =
    let parts = or_parts (p a) (list_any p (range_with_len (a + 1) n)) e in
    elim (cases_eq a k) [
      | inl same ↦ subst (λ i. p i ≡ false) same parts.0
      | inr ne ↦ none_any p (a + 1) n k parts.1 (omega (arith, low, ne)) (omega (arith, high))
    ]

repairable : (f : Problem) (ship slot : ℕ) → is_large f ship ≡ false → slot < f.slots → IsRepairable f.ships (unwrap_or (value_at f ship slot) 0)
repairable f ship slot small lt =
    let e : nat_lt 1_000_000_000_000 (unwrap_or (value_at f ship slot) 0 * (f.ships + 1) + 1) ≡ false = none_any (λ slot. nat_lt 1_000_000_000_000 (unwrap_or (value_at f ship slot) 0 * (f.ships + 1) + 1)) 0 f.slots slot small (omega arith) (omega (arith, lt)) in
    ltb-false _ _ e

at_place : (f : Problem) (i : ℕ) → i < length f.values → 0 < f.slots → value_at f (i / f.slots) (i % f.slots) ≡ get_or f.values i None
at_place f i lt some =
    let is : i / f.slots * f.slots + i % f.slots ≡ i = div-add-mod' i f.slots in
    ap (λ n. option_and_then (λ (v : Option ℕ). v) (slice_get f.values n)) is ∙ ap (option_and_then (λ (v : Option ℕ). v)) (slice_get-get_or f.values i None lt)

pub plan_fits : (f : Problem) (first : ℕ) (parts : List (List ℕ)) (plan : PlanParts) (rest : List (List ℕ)) → IsFlat f → 0 < f.slots → wishes_at f first 0 f.ships parts ≡ Ok (plan.wishes, rest) → PlanFits f plan
plan_fits f first parts plan rest flat some e =
    let read = wishes_read f first 0 f.ships parts (plan.wishes, rest) some e in
    record {
      each_ship = read.each_ship;
      each_wish = read.each_wish;
      each_value = All-from_get_or (λ v. IsRepairable f.ships (unwrap_or v 0)) f.values None (λ i lt.
          let in' : i / f.slots < f.ships = div_below i f.slots f.ships some (subst (λ n. i < n) flat.each_value lt) in
          subst (λ v. IsRepairable f.ships (unwrap_or v 0)) (at_place f i lt some) (repairable f (i / f.slots) (i % f.slots) (read.small (i / f.slots) (omega arith) (omega (arith, in'))) (mod_below i f.slots some)));
    }
