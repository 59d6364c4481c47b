-- The rule of restart numbers.
use Rattle.std.proofs.Common.{◌≡◌, ℕ, zero, suc, ◌+◌, ◌-◌, ◌*◌, ◌^◌, ◌<◌, ◌≤◌, Bool, true, false, cond, List, ◌∷◌, length, filter, nat_le, refl, sym, ap, ◌∙◌, subst, arith, inl, inr}
use Rattle.std.specs.Prelude.{◌==◌}
use Rattle.std.specs.List.{range_with_len}
use Rattle.std.proofs.lemmas.Bool.{cases_Bool, cases_lt, le-leb, lt-leb, eq-eqb, eqb-true}
use Rattle.std.proofs.lemmas.Nat.{pow_pos}
use Rattle.std.proofs.Math.Nat.{pow-succ'}
use Rattle.hw_search_laws.specs.Luby.{power_above, luby_within, luby}

-- ---- powers of two

pub double : (k : ℕ) → 2 ^ suc k ≡ 2 * 2 ^ k
double k = rw pow-succ' refl

pow_grows : (a b : ℕ) → a ≤ b → 2 ^ a ≤ 2 ^ b
pow_grows a zero le = let e : a ≡ zero = omega (arith, le) in omega (arith, ap (λ n. 2 ^ n) e)
pow_grows a (suc b) le = elim (cases_lt b a) [
  | inl more ↦ let e : a ≡ suc b = omega (arith, more, le) in omega (arith, ap (λ n. 2 ^ n) e)
  | inr less ↦ omega (arith, pow_grows a b less, double b)
]

pow_above : (k : ℕ) → k < 2 ^ k
pow_above zero = omega (arith, pow_pos 0)
pow_above (suc k) = omega (arith, pow_above k, double k)

-- ---- how many powers are at most i

kept_by : (b : Bool) (x : ℕ) (xs : List ℕ) (n : ℕ) → b ≡ true → length xs ≡ n → length (cond b (x ∷ xs) xs) ≡ suc n
kept_by true x xs n e h = omega (arith, h)
kept_by false x xs n e h = absurd cc

dropped_by : (b : Bool) (x : ℕ) (xs : List ℕ) → b ≡ false → length xs ≡ 0 → length (cond b (x ∷ xs) xs) ≡ 0
dropped_by true x xs e h = absurd cc
dropped_by false x xs e h = h

-- of the n numbers from a on, exactly the first k pass
none_pass : (p : ℕ → Bool) (a n : ℕ) → ((j : ℕ) → a ≤ j → p j ≡ false) → length (filter p (range_with_len a n)) ≡ 0
none_pass p a zero h = refl
none_pass p a (suc n) h = dropped_by (p a) a (filter p (range_with_len (a + 1) n)) (h a (omega arith)) (none_pass p (a + 1) n (λ j le. h j (omega (arith, le))))

first_pass : (p : ℕ → Bool) (a n k : ℕ) → k ≤ n → ((j : ℕ) → a ≤ j → j < a + k → p j ≡ true) → ((j : ℕ) → a + k ≤ j → p j ≡ false) → length (filter p (range_with_len a n)) ≡ k
first_pass p a n zero le yes' no' = none_pass p a n (λ j h. no' j (omega (arith, h)))
first_pass p a zero (suc k) le yes' no' = absurd (omega (arith, le))
first_pass p a (suc n) (suc k) le yes' no' = kept_by (p a) a (filter p (range_with_len (a + 1) n)) k (yes' a (omega arith) (omega arith)) (first_pass p (a + 1) n k (omega (arith, le)) (λ j h lt. yes' j (omega (arith, h)) (omega (arith, lt))) (λ j h. no' j (omega (arith, h))))

pub power_is : (i k : ℕ) → 1 ≤ k → 2 ^ (k - 1) ≤ i → i < 2 ^ k → power_above i ≡ k
power_is i k some low high = first_pass (λ j. nat_le (2 ^ j) i) 0 i k (let a = pow_above (k - 1) in omega (arith, a, low, some))
    (λ j h lt. let g = pow_grows j (k - 1) (omega (arith, lt, some)) in le-leb _ _ (omega (arith, g, low)))
    (λ j h. let g = pow_grows k j (omega (arith, h)) in lt-leb _ _ (omega (arith, g, high)))

-- the power of a number from 1 on
below : (i n : ℕ) → 1 ≤ i → i < 2 ^ n → (k : ℕ) × (1 ≤ k) × (2 ^ (k - 1) ≤ i) × (i < 2 ^ k)
below i zero some lt = absurd (let e : 2 ^ 0 ≡ 1 = refl in omega (arith, some, lt, e))
below i (suc n) some lt = elim (cases_lt i (2 ^ n)) [
  | inl less ↦ below i n some less
  | inr more ↦
      let e : suc n - 1 ≡ n = omega arith in
      (suc n, omega arith, omega (arith, more, ap (λ k. 2 ^ k) e), lt)
]

has_power : (i : ℕ) → 1 ≤ i → (k : ℕ) × (1 ≤ k) × (2 ^ (k - 1) ≤ i) × (i < 2 ^ k)
has_power i some = below i i some (pow_above i)

-- ---- the number of steps doesn't matter

pub record IsPower (i k : ℕ) : Type 0 where
  pub some : 1 ≤ k
  pub low : 2 ^ (k - 1) ≤ i
  pub high : i < 2 ^ k
  pub is : power_above i ≡ k

pub power_of : (i : ℕ) → 1 ≤ i → IsPower i (power_above i)
power_of i some =
    let r = has_power i some in
    let e : power_above i ≡ r.0 = power_is i r.0 r.1 r.2 r.3 in
    subst (IsPower i) (sym e) (record { some = r.1; low = r.2; high = r.3; is = e })

-- what is left is less, unless it is the last of its power
left_less : (i k : ℕ) → IsPower i k → (i + 1 ≡ 2 ^ k → ⊥) → (1 ≤ i + 1 - 2 ^ (k - 1)) × (i + 1 - 2 ^ (k - 1) < i)
left_less i zero p ne = absurd (omega (arith, p.some))
left_less i (suc zero) p ne =
    let one : 2 ^ 1 ≡ 2 = refl in
    let low : 2 ^ 0 ≡ 1 = refl in
    absurd (ne (omega (arith, p.high, p.low, one, low)))
left_less i (suc (suc k)) p ne =
    let e : suc (suc k) - 1 ≡ suc k = omega arith in
    let two : 2 ^ (suc (suc k) - 1) ≡ 2 * 2 ^ k = ap (λ n. 2 ^ n) e ∙ double k in
    omega_both i (2 ^ (suc (suc k) - 1)) (2 ^ k) p.low two (pow_pos k)
  where
    omega_both : (i a b : ℕ) → a ≤ i → a ≡ 2 * b → 0 < b → (1 ≤ i + 1 - a) × (i + 1 - a < i)
    omega_both i a b le e pos = (omega (arith, le), omega (arith, le, e, pos))

not_same : (a b : ℕ) → (a == b) ≡ false → a ≡ b → ⊥
not_same a b e h = absurd (let t : (a == b) ≡ true = eq-eqb a b h in cc)

cond_same : (b : Bool) (x y z : ℕ) → (b ≡ false → y ≡ z) → cond b x y ≡ cond b x z
cond_same true x y z h = refl
cond_same false x y z h = h refl

same_steps : (n i s t : ℕ) → 1 ≤ i → i ≤ n → i ≤ s → i ≤ t → luby_within s i ≡ luby_within t i
same_steps zero i s t some le a b = absurd (omega (arith, some, le))
same_steps (suc n) i zero t some le a b = absurd (omega (arith, some, a))
same_steps (suc n) i (suc s) zero some le a b = absurd (omega (arith, some, b))
same_steps (suc n) i (suc s) (suc t) some le a b = cond_same (i + 1 == 2 ^ power_above i) (2 ^ (power_above i - 1)) (luby_within s (i + 1 - 2 ^ (power_above i - 1))) (luby_within t (i + 1 - 2 ^ (power_above i - 1))) (λ e.
    let r = left_less i (power_above i) (power_of i some) (not_same (i + 1) (2 ^ power_above i) e) in
    same_steps n (i + 1 - 2 ^ (power_above i - 1)) s t r.0 (omega (arith, r.1, le)) (omega (arith, r.1, a)) (omega (arith, r.1, b)))

-- ---- the rule

cond_true : (b : Bool) (x y : ℕ) → b ≡ true → cond b x y ≡ x
cond_true true x y e = refl
cond_true false x y e = absurd cc

cond_false : (b : Bool) (x y : ℕ) → b ≡ false → cond b x y ≡ y
cond_false true x y e = absurd cc
cond_false false x y e = refl

whole : (i k : ℕ) → 1 ≤ k → i + 1 ≡ 2 ^ k → luby i ≡ 2 ^ (k - 1)
whole zero k some e = absurd (let g = pow_grows 1 k some in let one : 2 ^ 1 ≡ 2 = refl in omega (arith, e, g, one))
whole (suc m) k some e =
    let half : 2 ^ (k - 1) ≤ suc m = halves k some e in
    let is : power_above (suc m) ≡ k = power_is (suc m) k some half (omega (arith, e)) in
    cond_true (suc m + 1 == 2 ^ power_above (suc m)) (2 ^ (power_above (suc m) - 1)) (luby_within m (suc m + 1 - 2 ^ (power_above (suc m) - 1))) (eq-eqb (suc m + 1) (2 ^ power_above (suc m)) (e ∙ ap (λ n. 2 ^ n) (sym is))) ∙ ap (λ n. 2 ^ (n - 1)) is
  where
    halves : (k : ℕ) → 1 ≤ k → suc m + 1 ≡ 2 ^ k → 2 ^ (k - 1) ≤ suc m
    halves zero some e = absurd (omega (arith, some))
    halves (suc k) some e =
        let f : suc k - 1 ≡ k = omega arith in
        let g : 2 ^ (suc k - 1) ≡ 2 ^ k = ap (λ n. 2 ^ n) f in
        omega (arith, e, g, double k, pow_pos k)

part : (i k : ℕ) → 1 ≤ k → 2 ^ (k - 1) ≤ i → i + 1 < 2 ^ k → luby i ≡ luby (i + 1 - 2 ^ (k - 1))
part zero k some low high = absurd (omega (arith, low, pow_pos (k - 1)))
part (suc m) k some low high =
    let is : power_above (suc m) ≡ k = power_is (suc m) k some low (omega (arith, high)) in
    let ne : suc m + 1 ≡ 2 ^ k → ⊥ = λ e. omega (arith, e, high) in
    let test : (suc m + 1 == 2 ^ power_above (suc m)) ≡ false = elim (cases_Bool (suc m + 1 == 2 ^ power_above (suc m))) [
      | inl y ↦ absurd (ne (eqb-true (suc m + 1) (2 ^ power_above (suc m)) y ∙ ap (λ n. 2 ^ n) is))
      | inr n ↦ n
    ] in
    let r = left_less (suc m) k (record { some = some; low = low; high = omega (arith, high); is = is }) ne in
    cond_false (suc m + 1 == 2 ^ power_above (suc m)) (2 ^ (power_above (suc m) - 1)) (luby_within m (suc m + 1 - 2 ^ (power_above (suc m) - 1))) test
    ∙ ap (λ n. luby_within m (suc m + 1 - 2 ^ (n - 1))) is
    ∙ same_steps (suc m) (suc m + 1 - 2 ^ (k - 1)) m (suc m + 1 - 2 ^ (k - 1)) r.0 (omega (arith, r.1)) (omega (arith, r.1)) (omega arith)

pub luby_rule : (i k : ℕ) → 1 ≤ k → (i + 1 ≡ 2 ^ k → luby i ≡ 2 ^ (k - 1)) × (2 ^ (k - 1) ≤ i → i + 1 < 2 ^ k → luby i ≡ luby (i + 1 - 2 ^ (k - 1)))
luby_rule i k some = (λ e. whole i k some e, λ low high. part i k some low high)
