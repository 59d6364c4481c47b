-- Laws of a trail.
use Rattle.std.proofs.Common.{◌≡◌, ℕ, zero, suc, ◌+◌, ◌<◌, ◌≤◌, true, false, arith, inl, inr, ap, List, subst, Some, None, Option}
use Rattle.std.proofs.lemmas.Bool.{or_right, cases_lt, cases_Bool}
use Rattle.hw_model.specs.declared.lit.Lit.{Lit}
use Rattle.hw_trail_laws.specs.Replays.{World}
use Rattle.hw_trail_laws.specs.Stories.{Story, room_at, level_before, CameBy, IsStory}
use Rattle.hw_trail_laws.proofs.Replays.{cut_world}

-- truth and falsity stay along the trail
pub room_grows : (t : Story) (p q : ℕ) → p ≤ q → (m : Lit) → room_at t p m ≡ true → room_at t q m ≡ true
room_grows t p zero le m h = let e : p ≡ zero = omega arith in subst (λ (k : ℕ). room_at t k m ≡ true) e h
room_grows t p (suc q) le m h = elim (cases_lt q p) [
  | inl lt ↦ let e : p ≡ suc q = omega arith in subst (λ (k : ℕ). room_at t k m ≡ true) e h
  | inr ge ↦ or_right _ _ (room_grows t p q ge m h)
]

pub room_falls : (t : Story) (p q : ℕ) → p ≤ q → (m : Lit) → room_at t q m ≡ false → room_at t p m ≡ false
room_falls t p q le m h = elim (cases_Bool (room_at t p m)) [
  | inl y ↦ let z : room_at t q m ≡ true = room_grows t p q le m y in absurd cc
  | inr n ↦ n
]

pub room_world : (t : Story) (n : ℕ) → IsStory t n → (p : ℕ) → p ≤ n → World (room_at t p)
room_world t n s zero le = s.start_world
room_world t n s (suc p) le = cut_world (t.at p).lit (room_at t p) (room_world t n s p (omega arith)) (s.told p (omega arith)).not_false

level_steps : (t : Story) (p : ℕ) (why : Option (List Lit)) → CameBy t p why → level_before t p ≤ (t.at p).level
level_steps t p None b = omega arith
level_steps t p (Some c) b = omega (arith, b.0)

pub levels_rise : (t : Story) (n : ℕ) → IsStory t n → (p q : ℕ) → p ≤ q → q < n → (t.at p).level ≤ (t.at q).level
levels_rise t n s p zero le lt = let e : p ≡ zero = omega arith in omega (arith, ap (λ k. (t.at k).level) e)
levels_rise t n s p (suc q) le lt = elim (cases_lt q p) [
  | inl more ↦ let e : p ≡ suc q = omega arith in omega (arith, ap (λ k. (t.at k).level) e)
  | inr ge ↦ omega (arith, levels_rise t n s p q ge (omega arith), level_steps t (suc q) (t.at (suc q)).why (s.told (suc q) lt).because)
]

none_steps : (t : Story) (p : ℕ) (why : Option (List Lit)) → why ≡ None → CameBy t p why → (t.at p).level ≡ level_before t p + 1
none_steps t p None e b = b
none_steps t p (Some c) e b = absurd cc

-- a decision is the first of its level
pub decides_first : (t : Story) (n : ℕ) → IsStory t n → (p : ℕ) → p < n → (t.at p).why ≡ None → (q : ℕ) → q < p → (t.at q).level < (t.at p).level
decides_first t n s zero lt none q ql = absurd (omega arith)
decides_first t n s (suc p) lt none q ql =
    omega (arith, levels_rise t n s q p (omega arith) (omega arith), none_steps t (suc p) _ none (s.told (suc p) lt).because)

pub decides_above : (t : Story) (n : ℕ) → IsStory t n → (p : ℕ) → p < n → (t.at p).why ≡ None → 1 ≤ (t.at p).level
decides_above t n s p lt none = omega (arith, none_steps t p _ none (s.told p lt).because)

pub start_known : (t : Story) (p : ℕ) (m : Lit) → t.start m ≡ true → room_at t p m ≡ true
start_known t p m h = room_grows t 0 p (omega arith) m h
