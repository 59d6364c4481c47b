-- The clash is irreducible, and there is one.
use Rattle.std.proofs.Common.{◌≡◌, ◌==◌, ℕ, zero, suc, ◌+◌, ◌-◌, ◌<◌, ◌≤◌, Bool, true, false, not, cond, List, [], ◌∷◌, All, IsTrue, length, get_or, replicate, sym, subst, ◌∙◌, arith, inl, inr}
use Rattle.std.proofs.lemmas.Bool.{cases_eq}
use Rattle.std.proofs.lemmas.List.{length-replicate}
use Rattle.std.proofs.lemmas.List.Elements.{All-nil, All-replicate, All-from_get_or}
use Rattle.std.proofs.lemmas.List.FromFn.{length-range_with_len, get_or-range_with_len}
use Rattle.std.proofs.lemmas.List.Kept.{IsStrictlyIncreasing-filter}
use Rattle.std.specs.List.{range_with_len}
use Rattle.std.specs.List.Sorted.{IsStrictlyIncreasing}
use Rattle.hw_lemmas.proofs.Lists.{range_ascends}
use Rattle.hw_model.specs.Limits.{IsFlat}
use Rattle.hw_model.specs.Timetables.{Permits, NonePermitted}
use Rattle.hw_rules.specs.Outcomes.{SomePermitted}
use Rattle.hw_clash.specs.Wished.{Wished, wished_count, wished_holds, NoneWished}
use Rattle.hw_clash.specs.Parts.{part}
use Rattle.hw_lemmas.specs.Lists.{has}
use Rattle.hw_clash.specs.Clashing.{all_restriction_numbers, without_number, Tries, IsLeft}
use Rattle.hw_clash.specs.Laws.{ClashMeans, OneClash}
use Rattle.hw_clash.proofs.Lists.{has_all, all_has, of_without, Within, without_within}
use Rattle.hw_clash.proofs.Parts.{part_permits, part_of_all}

-- ---- fewer restrictions permit more

pub fewer : (f : Wished) (few many table : List ℕ) → Within few many → Permits (part f many) table → Permits (part f few) table
fewer f few many table within permits =
    let meets = (part_permits f many table).0 permits in
    (part_permits f few table).1 (record { listed = meets.listed; holds = all_has (λ n. IsTrue (wished_holds f table n)) few (λ n e. has_all (λ n. IsTrue (wished_holds f table n)) many n meets.holds (within n e)) })

-- ---- what is left

range_below : (a n m : ℕ) → has (range_with_len a n) m ≡ true → m < a + n
range_below a n m e = has_all (λ k. k < a + n) (range_with_len a n) m (all_below a n) e
  where
    all_below : (a n : ℕ) → All (λ k. k < a + n) (range_with_len a n)
    all_below a n = All-from_get_or (λ k. k < a + n) (range_with_len a n) 0 (λ i lt.
        let in' : i < n = omega (arith, lt, length-range_with_len a n) in
        let is : get_or (range_with_len a n) i 0 ≡ a + i = get_or-range_with_len a n i 0 in' in
        omega (arith, is, in'))

-- what is known of the numbers that are left when those below n were tried
pub record Known (f : Wished) (n : ℕ) (left : List ℕ) : Type 0 where
  pub numbered : (m : ℕ) → has left m ≡ true → m < wished_count f
  pub ascending : IsStrictlyIncreasing left
  pub clash : NoneWished f → NonePermitted (part f left)
  pub needed : (m : ℕ) → m < n → has left m ≡ true → SomePermitted (part f (without_number m left))

known_first : (f : Wished) → Known f 0 (all_restriction_numbers f)
known_first f = record {
  numbered = λ m e. omega (arith, range_below 0 (wished_count f) m e);
  ascending = range_ascends 0 (wished_count f);
  clash = λ none table permits. none table ((part_of_all f table).0 permits);
  needed = λ m lt e. absurd (omega (arith, lt));
}

known_taken : (f : Wished) (n : ℕ) (before : List ℕ) → Known f n before → NonePermitted (part f (without_number n before)) → Known f (suc n) (without_number n before)
known_taken f n before known none = record {
  numbered = λ m e. known.numbered m (of_without n m before e).0;
  ascending = IsStrictlyIncreasing-filter (λ m. not (m == n)) before known.ascending;
  clash = λ _. none;
  needed = λ m lt e.
      let was = of_without n m before e in
      let some = known.needed m (below m was.1 lt) was.0 in
      (some.0, fewer f (without_number m (without_number n before)) (without_number m before) some.0 (without_within m (without_number n before) before (λ k h. (of_without n k before h).0)) some.1);
}
  where
    below : (m : ℕ) → (m ≡ n → ⊥) → m < suc n → m < n
    below m other lt = elim (cases_eq m n) [ inl same ↦ absurd (other same) | inr ne ↦ omega (arith, ne, lt) ]

known_kept : (f : Wished) (n : ℕ) (before : List ℕ) → Known f n before → SomePermitted (part f (without_number n before)) → Known f (suc n) before
known_kept f n before known some = record {
  numbered = known.numbered;
  ascending = known.ascending;
  clash = known.clash;
  needed = λ m lt e. elim (cases_eq m n) [
    | inl same ↦ subst (λ k. SomePermitted (part f (without_number k before))) (sym same) some
    | inr ne ↦ known.needed m (omega (arith, ne, lt)) e
  ];
}

pub known_next : (f : Wished) (n : ℕ) (before after : List ℕ) → Known f n before → Tries f n before after → Known f (suc n) after
known_next f n before after known tries = elim tries [
  | inl taken ↦ subst (Known f (suc n)) (sym taken.1) (known_taken f n before known taken.0)
  | inr kept ↦ subst (Known f (suc n)) (sym kept.1) (known_kept f n before known kept.0)
]

pub known : (f : Wished) (n : ℕ) (left : List ℕ) → IsLeft f n left → Known f n left
known f zero left is = subst (Known f 0) (sym is) (known_first f)
known f (suc n) left is = known_next f n is.0 left (known f n is.0 is.1) is.2

-- ---- the clash

-- without restrictions each ship may have the first slot
free : (f : Wished) → 0 < f.problem.slots → SomePermitted (part f [])
free f some = (
  replicate f.problem.ships 0,
  (part_permits f [] (replicate f.problem.ships 0)).1 (record {
    listed = record { each_ship = length-replicate f.problem.ships 0; each_slot = All-replicate (λ slot. slot < f.problem.slots) f.problem.ships 0 some };
    holds = All-nil (λ n. IsTrue (wished_holds f (replicate f.problem.ships 0) n));
  }),
)

some_kept : (f : Wished) (kept : List ℕ) → 0 < f.problem.slots → NonePermitted (part f kept) → 1 ≤ length kept
some_kept f [] some none = absurd (let t = free f some in none t.0 t.1)
some_kept f (n ∷ kept) some none = omega arith

pub slots_there : (f : Wished) → IsFlat f.problem → 0 < f.problem.slots
slots_there f flat = by_stay f.problem.stay flat.some_slot
  where
    by_stay : (b : Bool) → 1 ≤ cond b (f.problem.slots - 1) f.problem.slots → 0 < f.problem.slots
    by_stay true h = omega (arith, h)
    by_stay false h = omega (arith, h)

pub clash_means : ClashMeans
clash_means f kept flat none is =
    let k = known f (wished_count f) kept is in
    record {
      some = some_kept f kept (slots_there f flat) (k.clash none);
      numbered = all_has (λ n. n < wished_count f) kept k.numbered;
      ascending = k.ascending;
      clash = k.clash none;
      needed = all_has (λ n. SomePermitted (part f (without_number n kept))) kept (λ n e. k.needed n (k.numbered n e) e);
    }

-- ---- only one

tries_one : (f : Wished) (n : ℕ) (before one other : List ℕ) → Tries f n before one → Tries f n before other → one ≡ other
tries_one f n before one other a b = elim a [
  | inl taken ↦ elim b [
    | inl also ↦ taken.1 ∙ sym also.1
    | inr kept ↦ absurd (taken.0 kept.0.0 kept.0.1)
  ]
  | inr kept ↦ elim b [
    | inl taken ↦ absurd (taken.0 kept.0.0 kept.0.1)
    | inr also ↦ kept.1 ∙ sym also.1
  ]
]

pub left_one : (f : Wished) (n : ℕ) (one other : List ℕ) → IsLeft f n one → IsLeft f n other → one ≡ other
left_one f zero one other a b = a ∙ sym b
left_one f (suc n) one other a b = tries_one f n a.0 one other a.2 (subst (λ before. Tries f n before other) (sym (left_one f n a.0 b.0 a.1 b.1)) b.2)

pub one_clash : OneClash
one_clash f one other a b = left_one f (wished_count f) one other a b
