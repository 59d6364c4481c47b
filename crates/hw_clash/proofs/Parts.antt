-- What parts permit.
use Rattle.std.proofs.Common.{◌≡◌, ℕ, zero, suc, ◌+◌, ◌-◌, ◌<◌, ◌≤◌, Bool, true, false, cond, not, ◌&&◌, ◌||◌, nat_lt, List, [], ◌∷◌, Option, Some, None, slice_get, unwrap_or, is_none, is_some, IsSome, IsTrue, All, length, get_or, refl, sym, ap, subst, ◌∙◌, arith, inl, inr}
use Rattle.std.proofs.lemmas.Bool.{cond-true, cond-false, lt-ltb, le-ltb, cases_lt, cases_eq}
use Rattle.std.proofs.lemmas.List.Elements.{All-get_or}
use Rattle.hw_plan_texts.proofs.Alike.{rules_alike}
use Rattle.hw_plan_texts.proofs.Grids.{grid_length, grid_all, grid_value}
use Rattle.std.proofs.lemmas.Option.{get_or_from_slice_get}
use Rattle.hw_model.specs.declared.rule.Rule.{Rule}
use Rattle.hw_model.specs.Problem.{Problem, IsTimetable, value_at, horizon}
use Rattle.hw_model.specs.Limits.{IsFlat, RuleFits, StepsSail}
use Rattle.hw_model.specs.Rules.{rule_holds}
use Rattle.hw_model.specs.Timetables.{Permits, plus, cargo_from, holds_at, restriction_holds, restriction_count}
use Rattle.hw_clash.specs.Parts.{is_window_closed, is_refused, part_value, part, rules_in, Meets}
use Rattle.hw_lemmas.specs.Lists.{has}
use Rattle.hw_repair.specs.declared.plan.Wish.{Wish}
use Rattle.hw_clash.specs.Wished.{Wished, is_granted, wished_count, wish_holds, wished_holds, PermitsWished}
use Rattle.hw_clash.specs.Clashing.{all_restriction_numbers}
use Rattle.hw_clash.specs.Laws.{PartValue, PartPermits, PartFits, PartCargo, PartOfAll}
use Rattle.std.specs.List.{range_with_len}
use Rattle.hw_lemmas.proofs.Truths.{if_some, if_some_from}
use Rattle.hw_lemmas.proofs.Lists.{get_within}
use Rattle.hw_clash.proofs.Lists.{has_head, has_tail, has_all, all_has, Each, each_of_all, all_of_each, each_at, each_from}
use Rattle.hw_clash.proofs.Kept.{kept_holds, holds_kept, few_kept}

pub value_is : PartValue
value_is f kept ship slot lt in' = grid_value (part f kept) (part_value f kept) ship slot refl lt in'

-- ---- values

abbrev nought : Option ℕ
nought = Some 0

some_value : (h : Bool) (o : Option ℕ) (k g : Bool) → (h ≡ true → IsSome o) → (k ≡ true → IsTrue g) → cond ((h && is_none o) || (k && not g)) None nought ≡ nought
some_value true None k g some granted = absurd (let e = some refl in cc)
some_value true (Some x) true true some granted = refl
some_value true (Some x) true false some granted = absurd (let e = granted refl in cc)
some_value true (Some x) false g some granted = refl
some_value false o true true some granted = refl
some_value false o true false some granted = absurd (let e = granted refl in cc)
some_value false o false g some granted = refl

value_some : (h : Bool) (o : Option ℕ) (b : Bool) → IsSome (cond ((h && is_none o) || b) None nought) → h ≡ true → IsSome o
value_some true None b some e = absurd cc
value_some true (Some x) b some e = refl
value_some false o b some e = absurd cc

value_granted : (b k g : Bool) → IsSome (cond (b || (k && not g)) None nought) → k ≡ true → IsTrue g
value_granted b true true some e = refl
value_granted true true false some e = absurd cc
value_granted false true false some e = absurd cc
value_granted b false g some e = absurd cc

small_value : (b : Bool) → unwrap_or (cond b None nought) 0 ≡ 0
small_value true = refl
small_value false = refl

at_most : (n m : ℕ) → n ≡ 0 → n ≤ m
at_most n m e = omega (arith, e)

-- ---- limits

last_in : (f : Wished) → IsFlat f.problem → IsTrue f.problem.stay → horizon f.problem < f.problem.slots
last_in f flat stay =
    let e : horizon f.problem ≡ f.problem.slots - 1 = ap (λ (b : Bool). cond b (f.problem.slots - 1) f.problem.slots) stay in
    omega (arith, flat.some_slot, e)

last_none : (f : Wished) (kept : List ℕ) (ship : ℕ) → IsFlat f.problem → ship < f.problem.ships → IsTrue f.problem.stay → unwrap_or (value_at (part f kept) ship (horizon f.problem)) 0 ≡ 0
last_none f kept ship flat lt stay = ap (λ o. unwrap_or o 0) (value_is f kept ship (horizon f.problem) lt (last_in f flat stay)) ∙ small_value (is_window_closed f kept ship (horizon f.problem) || is_refused f kept ship (horizon f.problem))

kept_rules : (P : Rule → Type 0) (f : Wished) (kept : List ℕ) → All P f.problem.rules → All P (rules_in kept f.problem.ships f.problem.rules)
kept_rules P f kept all =
    let each : Each P f.problem.rules = each_of_all P f.problem.rules all in
    all_of_each P (rules_in kept f.problem.ships f.problem.rules) (holds_kept P kept f.problem.ships f.problem.rules (λ i k rule at e in'. if_some P (slice_get f.problem.rules i) rule e (each_at P f.problem.rules i each)))

pub part_fits : PartFits
part_fits f kept flat = record {
  limits = record {
    some_ship = flat.some_ship;
    few_ships = flat.few_ships;
    some_slot = flat.some_slot;
    few_slots = flat.few_slots;
    each_value = grid_length (part_value f kept) f.problem.ships f.problem.slots;
    last_value = λ ship lt stay. at_most _ 1 (last_none f kept ship flat lt stay);
    small_values = grid_all (λ v. unwrap_or v 0 ≤ 1_000_000_000_000) (part_value f kept) f.problem.ships f.problem.slots (λ ship slot lt in'. at_most _ 1_000_000_000_000 (small_value (is_window_closed f kept ship slot || is_refused f kept ship slot)));
    few_rules = omega (arith, few_kept kept f.problem.ships f.problem.rules, flat.few_rules);
    each_rule = kept_rules (RuleFits f.problem.ships) f kept flat.each_rule;
    steps_sail = kept_rules (StepsSail (horizon f.problem)) f kept flat.steps_sail;
  };
  writable = λ ship lt stay. last_none f kept ship flat lt stay;
}

-- ---- what is permitted

slot_in : (f : Wished) (table : List ℕ) (ship : ℕ) → IsTimetable f.problem table → ship < f.problem.ships → get_or table ship 0 < f.problem.slots
slot_in f table ship listed lt = All-get_or (λ slot. slot < f.problem.slots) table ship 0 (omega (arith, lt, listed.each_ship)) listed.each_slot

-- a window, a rule and a wish by their numbers
pub below : (f : Wished) (table : List ℕ) (n : ℕ) → n < restriction_count f.problem → wished_holds f table n ≡ restriction_holds f.problem table n
below f table n lt = cond-true (nat_lt n (restriction_count f.problem)) (restriction_holds f.problem table n) (wish_holds f table (n - restriction_count f.problem)) (lt-ltb n (restriction_count f.problem) lt)

pub window_is : (f : Wished) (table : List ℕ) (n : ℕ) → n < f.problem.ships → wished_holds f table n ≡ is_some (value_at f.problem n (get_or table n 0))
window_is f table n lt = below f table n (omega (arith, lt)) ∙ cond-true (nat_lt n f.problem.ships) (is_some (value_at f.problem n (get_or table n 0))) (holds_at f.problem table (slice_get f.problem.rules (n - f.problem.ships))) (lt-ltb n f.problem.ships lt)

pub rule_is : (f : Wished) (table : List ℕ) (n : ℕ) → f.problem.ships ≤ n → n < restriction_count f.problem → wished_holds f table n ≡ holds_at f.problem table (slice_get f.problem.rules (n - f.problem.ships))
rule_is f table n le lt = below f table n lt ∙ cond-false (nat_lt n f.problem.ships) (is_some (value_at f.problem n (get_or table n 0))) (holds_at f.problem table (slice_get f.problem.rules (n - f.problem.ships))) (le-ltb n f.problem.ships le)

pub wish_is : (f : Wished) (table : List ℕ) (n : ℕ) → restriction_count f.problem ≤ n → wished_holds f table n ≡ wish_holds f table (n - restriction_count f.problem)
wish_is f table n le = cond-false (nat_lt n (restriction_count f.problem)) (restriction_holds f.problem table n) (wish_holds f table (n - restriction_count f.problem)) (le-ltb n (restriction_count f.problem) le)

holds_from : (f : Problem) (table : List ℕ) (o : Option Rule) → ((rule : Rule) → o ≡ Some rule → IsTrue (rule_holds f table rule)) → IsTrue (holds_at f table o)
holds_from f table None each = refl
holds_from f table (Some rule) each = each rule refl

from_holds : (f : Problem) (table : List ℕ) (o : Option Rule) (rule : Rule) → o ≡ Some rule → IsTrue (holds_at f table o) → IsTrue (rule_holds f table rule)
from_holds f table o rule e h = subst (λ o. IsTrue (holds_at f table o)) e h

unlisted : (o : Option Wish) → IsTrue (is_granted o None)
unlisted None = refl
unlisted (Some wish) = refl

pub slot_at : (table : List ℕ) (ship : ℕ) → ship < length table → slice_get table ship ≡ Some (get_or table ship 0)
slot_at [] ship lt = absurd (omega (arith, lt))
slot_at (x ∷ xs) zero lt = refl
slot_at (x ∷ xs) (suc ship) lt = slot_at xs ship (omega (arith, lt))

-- a kept wish holds of what the part permits
wish_kept : (f : Wished) (kept table : List ℕ) (ship : ℕ) → Permits (part f kept) table → has kept (restriction_count f.problem + ship) ≡ true → IsTrue (wish_holds f table ship)
wish_kept f kept table ship permits in' = by (slice_get table ship) refl
  where
    by : (o : Option ℕ) → slice_get table ship ≡ o → IsTrue (is_granted (slice_get f.wishes ship) o)
    by None e = unlisted (slice_get f.wishes ship)
    by (Some slot) e =
        let lt : ship < f.problem.ships = omega (arith, get_within table ship slot e, permits.listed.each_ship) in
        let is_slot : get_or table ship 0 ≡ slot = get_or_from_slice_get table ship slot 0 e in
        let within : slot < f.problem.slots = subst (λ n. n < f.problem.slots) is_slot (All-get_or (λ slot. slot < f.problem.slots) table ship 0 (omega (arith, lt, permits.listed.each_ship)) permits.listed.each_slot) in
        let there : IsSome (part_value f kept ship slot) = subst (λ o. IsSome o) (value_is f kept ship slot lt within) (subst (λ n. IsSome (value_at (part f kept) ship n)) is_slot (permits.sails ship lt)) in
        value_granted (is_window_closed f kept ship slot) (has kept (restriction_count f.problem + ship)) (is_granted (slice_get f.wishes ship) (Some slot)) there in'

to_meets : (f : Wished) (kept table : List ℕ) → Permits (part f kept) table → Meets f kept table
to_meets f kept table permits =
    let listed : IsTimetable f.problem table = record { each_ship = permits.listed.each_ship; each_slot = permits.listed.each_slot } in
    let each : Each (λ rule. IsTrue (rule_holds (part f kept) table rule)) (rules_in kept f.problem.ships f.problem.rules) = each_from (λ rule. IsTrue (rule_holds (part f kept) table rule)) (rules_in kept f.problem.ships f.problem.rules) permits.keeps in
    record {
      listed = listed;
      holds = all_has (λ n. IsTrue (wished_holds f table n)) kept (λ n in'. elim (cases_lt n f.problem.ships) [
        | inl lt ↦
            let there : IsSome (part_value f kept n (get_or table n 0)) = subst (λ o. IsSome o) (value_is f kept n (get_or table n 0) lt (slot_in f table n listed lt)) (permits.sails n lt) in
            subst (λ b. IsTrue b) (sym (window_is f table n lt)) (value_some (has kept n) (value_at f.problem n (get_or table n 0)) (is_refused f kept n (get_or table n 0)) there in')
        | inr le ↦ elim (cases_lt n (restriction_count f.problem)) [
          | inl lt ↦
              subst (λ b. IsTrue b) (sym (rule_is f table n le lt)) (holds_from f.problem table (slice_get f.problem.rules (n - f.problem.ships)) (λ rule e.
              subst (λ b. IsTrue b) (rules_alike f.problem (part f kept) table rule refl refl)
              (kept_holds (λ rule. IsTrue (rule_holds (part f kept) table rule)) kept f.problem.ships f.problem.rules (n - f.problem.ships) n rule each (omega (arith, le)) e in')))
          | inr past ↦
              let here : n ≡ restriction_count f.problem + (n - restriction_count f.problem) = omega (arith, past) in
              subst (λ b. IsTrue b) (sym (wish_is f table n past)) (wish_kept f kept table (n - restriction_count f.problem) permits (subst (λ m. has kept m ≡ true) here in'))
        ]
      ]);
    }

from_meets : (f : Wished) (kept table : List ℕ) → Meets f kept table → Permits (part f kept) table
from_meets f kept table meets =
    let holds = λ (n : ℕ) (in' : has kept n ≡ true). has_all (λ n. IsTrue (wished_holds f table n)) kept n meets.holds in' in
    let each : Each (λ rule. IsTrue (rule_holds (part f kept) table rule)) (rules_in kept f.problem.ships f.problem.rules) = holds_kept (λ rule. IsTrue (rule_holds (part f kept) table rule)) kept f.problem.ships f.problem.rules (λ i k rule at e in'.
    let le : f.problem.ships ≤ k = omega (arith, at) in
    let lt : k < restriction_count f.problem = omega (arith, at, get_within f.problem.rules i rule e) in
    let place : k - f.problem.ships ≡ i = omega (arith, at) in
    let kept_rule : IsTrue (holds_at f.problem table (slice_get f.problem.rules (k - f.problem.ships))) = subst (λ b. IsTrue b) (rule_is f table k le lt) (holds k in') in
    subst (λ b. IsTrue b) (sym (rules_alike f.problem (part f kept) table rule refl refl)) (from_holds f.problem table (slice_get f.problem.rules (k - f.problem.ships)) rule (ap (slice_get f.problem.rules) place ∙ e) kept_rule)) in
    record {
      listed = record { each_ship = meets.listed.each_ship; each_slot = meets.listed.each_slot };
      sails = λ ship lt.
          let slot : ℕ = get_or table ship 0 in
          let number : ℕ = restriction_count f.problem + ship in
          let past : restriction_count f.problem ≤ number = omega arith in
          let back : number - restriction_count f.problem ≡ ship = omega arith in
          let at : value_at (part f kept) ship slot ≡ part_value f kept ship slot = value_is f kept ship slot lt (slot_in f table ship meets.listed lt) in
          let zero' : part_value f kept ship slot ≡ Some 0 =
          some_value (has kept ship) (value_at f.problem ship slot) (has kept number) (is_granted (slice_get f.wishes ship) (Some slot))
          (λ in'. subst (λ b. IsTrue b) (window_is f table ship lt) (holds ship in'))
          (λ in'. subst (λ o. IsTrue (is_granted (slice_get f.wishes ship) o)) (slot_at table ship (omega (arith, lt, meets.listed.each_ship))) (subst (λ b. IsTrue b) (wish_is f table number past ∙ ap (wish_holds f table) back) (holds number in'))) in
          subst (λ o. IsSome o) (sym (at ∙ zero')) refl;
      keeps = λ place. each_at (λ rule. IsTrue (rule_holds (part f kept) table rule)) (rules_in kept f.problem.ships f.problem.rules) place each;
    }

pub part_permits : PartPermits
part_permits f kept table = (to_meets f kept table, from_meets f kept table)

-- ---- cargo

nothing : (g : Problem) (ship : ℕ) (slots : List ℕ) → ((i s slot : ℕ) → s ≡ ship + i → slice_get slots i ≡ Some slot → value_at g s slot ≡ Some 0) → cargo_from g ship slots ≡ Some 0
nothing g ship [] at = refl
nothing g ship (x ∷ xs) at =
    ap (λ o. plus o (cargo_from g (ship + 1) xs)) (at 0 ship x (omega arith) refl)
    ∙ ap (plus (Some 0)) (nothing g (ship + 1) xs (λ i s slot here e. at (suc i) s slot (omega (arith, here)) e))

zero_value : (b : Bool) → IsSome (cond b None nought) → cond b None nought ≡ nought
zero_value true some = absurd cc
zero_value false some = refl

pub part_cargo : PartCargo
part_cargo f kept table permits = nothing (part f kept) 0 table (λ i s slot here e.
    let there : s ≡ i = omega (arith, here) in
    let lt : s < f.problem.ships = omega (arith, get_within table i slot e, permits.listed.each_ship, there) in
    let is_slot : get_or table s 0 ≡ slot = ap (λ n. get_or table n 0) there ∙ get_or_from_slice_get table i slot 0 e in
    let at : value_at (part f kept) s slot ≡ part_value f kept s slot = value_is f kept s slot lt (subst (λ n. n < f.problem.slots) is_slot (All-get_or (λ slot. slot < f.problem.slots) table s 0 (omega (arith, lt, permits.listed.each_ship)) permits.listed.each_slot)) in
    let some : IsSome (part_value f kept s slot) = subst (λ o. IsSome o) at (subst (λ n. IsSome (value_at (part f kept) s n)) is_slot (permits.sails s lt)) in
    at ∙ zero_value (is_window_closed f kept s slot || is_refused f kept s slot) some)

-- ---- all restrictions

has_range : (a n k : ℕ) → a ≤ k → k < a + n → has (range_with_len a n) k ≡ true
has_range a zero k low high = absurd (omega (arith, low, high))
has_range a (suc n) k low high = elim (cases_eq a k) [
  | inl same ↦ subst (λ i. has (range_with_len a (suc n)) i ≡ true) same (has_head a (range_with_len (a + 1) n))
  | inr other ↦ has_tail a k (range_with_len (a + 1) n) (has_range (a + 1) n k (omega (arith, low, other)) (omega (arith, high)))
]

pub numbered : (f : Wished) (n : ℕ) → n < wished_count f → has (all_restriction_numbers f) n ≡ true
numbered f n lt = has_range 0 (wished_count f) n (omega arith) (omega (arith, lt))

of_all : (f : Wished) (table : List ℕ) → Meets f (all_restriction_numbers f) table → PermitsWished f table
of_all f table meets =
    let at = λ (n : ℕ) (lt : n < wished_count f). has_all (λ n. IsTrue (wished_holds f table n)) (all_restriction_numbers f) n meets.holds (numbered f n lt) in
    record {
      permitted = record {
        listed = meets.listed;
        sails = λ ship lt. subst (λ b. IsTrue b) (window_is f table ship lt) (at ship (omega (arith, lt)));
        keeps = λ place. if_some_from (λ rule. IsTrue (rule_holds f.problem table rule)) (slice_get f.problem.rules place) (λ rule e.
            let in' : place < length f.problem.rules = get_within f.problem.rules place rule e in
            let back : f.problem.ships + place - f.problem.ships ≡ place = omega arith in
            from_holds f.problem table (slice_get f.problem.rules (f.problem.ships + place - f.problem.ships)) rule (ap (slice_get f.problem.rules) back ∙ e) (subst (λ b. IsTrue b) (rule_is f table (f.problem.ships + place) (omega arith) (omega (arith, in'))) (at (f.problem.ships + place) (omega (arith, in')))));
      };
      granted = λ ship. by ship (slice_get f.wishes ship) refl (λ in'.
          let number : ℕ = restriction_count f.problem + ship in
          let back : number - restriction_count f.problem ≡ ship = omega arith in
          subst (λ b. IsTrue b) (wish_is f table number (omega arith) ∙ ap (wish_holds f table) back) (at number (omega (arith, in'))));
    }
  where
    by : (ship : ℕ) (o : Option Wish) → slice_get f.wishes ship ≡ o → (ship < length f.wishes → IsTrue (wish_holds f table ship)) → IsTrue (is_granted o (slice_get table ship))
    by ship None e there = refl
    by ship (Some wish) e there = subst (λ o. IsTrue (is_granted o (slice_get table ship))) e (there (get_within f.wishes ship wish e))

pub holds_all : (f : Wished) (table : List ℕ) (n : ℕ) → PermitsWished f table → IsTrue (wished_holds f table n)
holds_all f table n permits = elim (cases_lt n f.problem.ships) [
  | inl lt ↦ subst (λ b. IsTrue b) (sym (window_is f table n lt)) (permits.permitted.sails n lt)
  | inr le ↦ elim (cases_lt n (restriction_count f.problem)) [
    | inl lt ↦ subst (λ b. IsTrue b) (sym (rule_is f table n le lt)) (holds_from f.problem table (slice_get f.problem.rules (n - f.problem.ships)) (λ rule e. if_some (λ rule. IsTrue (rule_holds f.problem table rule)) (slice_get f.problem.rules (n - f.problem.ships)) rule e (permits.permitted.keeps (n - f.problem.ships))))
    | inr past ↦ subst (λ b. IsTrue b) (sym (wish_is f table n past)) (permits.granted (n - restriction_count f.problem))
  ]
]

pub part_of_all : PartOfAll
part_of_all f table = (
  λ permits. of_all f table (to_meets f (all_restriction_numbers f) table permits),
  λ permits. from_meets f (all_restriction_numbers f) table (record { listed = permits.permitted.listed; holds = all_has (λ n. IsTrue (wished_holds f table n)) (all_restriction_numbers f) (λ n in'. holds_all f table n permits) }),
)

-- ---- a value as it is computed

pub value_by : (f : Wished) (kept : List ℕ) (ship slot : ℕ) (h : Bool) (v : Option ℕ) (r : Bool) → h ≡ has kept ship → v ≡ value_at f.problem ship slot → r ≡ is_refused f kept ship slot → cond ((h && is_none v) || r) None nought ≡ part_value f kept ship slot
value_by f kept ship slot h v r e d c =
    ap (λ (b : Bool). cond ((b && is_none v) || r) None nought) e
    ∙ ap (λ (o : Option ℕ). cond ((has kept ship && is_none o) || r) None nought) d
    ∙ ap (λ (b : Bool). cond (is_window_closed f kept ship slot || b) None nought) c

pub refused_by : (f : Wished) (kept : List ℕ) (ship slot : ℕ) (h : Bool) (n : ℕ) (wish : Option Wish) → h ≡ has kept n → n ≡ restriction_count f.problem + ship → wish ≡ slice_get f.wishes ship → (h && not (is_granted wish (Some slot))) ≡ is_refused f kept ship slot
refused_by f kept ship slot h n wish e at is = rw (e, at, is) refl
