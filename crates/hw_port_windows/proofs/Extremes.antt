-- The least and the greatest draft of a run.
use Rattle.std.proofs.Common.{◌≡◌, ◌≤◌, ◌+◌, ◌-◌, ℕ, zero, suc, ℤ, ◌≤ℤ◌, int_lt, Bool, true, false, cond, refl, subst, inl, inr, arith}
use Rattle.std.proofs.lemmas.Bool.{cases_lt}
use Rattle.std.proofs.lemmas.Int.{ints}
use Rattle.hw_port_windows.specs.Runs.{deeper_slot, deepest, lighter, lightest}
use Rattle.hw_port_windows.specs.Laws.{DraftsAreExtremes}

-- one of some slots, none of which has a lesser draft
record Least (draft : ℕ → ℤ) (first more slot : ℕ) : Type 0 where
  low : first ≤ slot
  high : slot ≤ first + more
  bound : (k : ℕ) → first ≤ k → k ≤ first + more → draft slot ≤ℤ draft k

record Greatest (draft : ℕ → ℤ) (first more slot : ℕ) : Type 0 where
  low : first ≤ slot
  high : slot ≤ first + more
  bound : (k : ℕ) → first ≤ k → k ≤ first + more → draft k ≤ℤ draft slot

le_same : (draft : ℕ → ℤ) (a k : ℕ) → a ≡ k → draft a ≤ℤ draft k
le_same draft a k e = subst (λ n. draft a ≤ℤ draft n) e (omega (arith, ints))

same_le : (draft : ℕ → ℤ) (a k : ℕ) → a ≡ k → draft k ≤ℤ draft a
same_le draft a k e = subst (λ n. draft n ≤ℤ draft a) e (omega (arith, ints))

lighter_by : (b : Bool) (draft : ℕ → ℤ) (first more slot : ℕ) → int_lt (draft (first + suc more)) (draft slot) ≡ b → Least draft first more slot → Least draft first (suc more) (cond b (first + suc more) slot)
lighter_by true draft first more slot e is = record {
  low = omega arith;
  high = omega arith;
  bound = λ k low high. elim (cases_lt k (first + suc more)) [
    | inl earlier ↦ (let one = is.bound k low (omega (arith, earlier)) in grind (arith, ints, one, e))
    | inr last ↦ le_same draft (first + suc more) k (omega (arith, high, last))
  ];
}
lighter_by false draft first more slot e is = record {
  low = is.low;
  high = omega (arith, is.high);
  bound = λ k low high. elim (cases_lt k (first + suc more)) [
    | inl earlier ↦ is.bound k low (omega (arith, earlier))
    | inr last ↦ (
        let at : first + suc more ≡ k = omega (arith, high, last) in
        let least : draft slot ≤ℤ draft (first + suc more) = grind (arith, ints, e) in
        subst (λ n. draft slot ≤ℤ draft n) at least)
  ];
}

lightest_is : (draft : ℕ → ℤ) (first more : ℕ) → Least draft first more (lightest draft first more)
lightest_is draft first zero = record {
  low = omega arith;
  high = omega arith;
  bound = λ k low high. le_same draft first k (omega (arith, low, high));
}
lightest_is draft first (suc more) = lighter_by (int_lt (draft (first + suc more)) (draft (lightest draft first more))) draft first more (lightest draft first more) refl (lightest_is draft first more)

deeper_by : (b : Bool) (draft : ℕ → ℤ) (first more slot : ℕ) → int_lt (draft slot) (draft (first + suc more)) ≡ b → Greatest draft first more slot → Greatest draft first (suc more) (cond b (first + suc more) slot)
deeper_by true draft first more slot e is = record {
  low = omega arith;
  high = omega arith;
  bound = λ k low high. elim (cases_lt k (first + suc more)) [
    | inl earlier ↦ (let one = is.bound k low (omega (arith, earlier)) in grind (arith, ints, one, e))
    | inr last ↦ same_le draft (first + suc more) k (omega (arith, high, last))
  ];
}
deeper_by false draft first more slot e is = record {
  low = is.low;
  high = omega (arith, is.high);
  bound = λ k low high. elim (cases_lt k (first + suc more)) [
    | inl earlier ↦ is.bound k low (omega (arith, earlier))
    | inr last ↦ (
        let at : first + suc more ≡ k = omega (arith, high, last) in
        let greatest : draft (first + suc more) ≤ℤ draft slot = grind (arith, ints, e) in
        subst (λ n. draft n ≤ℤ draft slot) at greatest)
  ];
}

deepest_is : (draft : ℕ → ℤ) (first more : ℕ) → Greatest draft first more (deepest draft first more)
deepest_is draft first zero = record {
  low = omega arith;
  high = omega arith;
  bound = λ k low high. same_le draft first k (omega (arith, low, high));
}
deepest_is draft first (suc more) = deeper_by (int_lt (draft (deepest draft first more)) (draft (first + suc more))) draft first more (deepest draft first more) refl (deepest_is draft first more)

pub extremes_law : DraftsAreExtremes
extremes_law = λ draft run le.
    let l = lightest_is draft run.first (run.last - run.first) in
    let g = deepest_is draft run.first (run.last - run.first) in
    record {
      light_within = record { low = l.low; high = omega (arith, le, l.high) };
      deep_within = record { low = g.low; high = omega (arith, le, g.high) };
      least = λ slot within. l.bound slot within.low (omega (arith, le, within.high));
      greatest = λ slot within. g.bound slot within.low (omega (arith, le, within.high));
    }

-- one slot more
pub lightest_on : (draft : ℕ → ℤ) (first slot best : ℕ) → first ≤ slot → best ≡ lightest draft first (slot - first) → lighter draft best (slot + 1) ≡ lightest draft first (slot + 1 - first)
lightest_on draft first slot best le e =
    let size : slot + 1 - first ≡ suc (slot - first) = omega (arith, le) in
    let at : first + suc (slot - first) ≡ slot + 1 = omega (arith, le) in
    rw (size, at, e) refl

pub deepest_on : (draft : ℕ → ℤ) (first slot best : ℕ) → first ≤ slot → best ≡ deepest draft first (slot - first) → deeper_slot draft best (slot + 1) ≡ deepest draft first (slot + 1 - first)
deepest_on draft first slot best le e =
    let size : slot + 1 - first ≡ suc (slot - first) = omega (arith, le) in
    let at : first + suc (slot - first) ≡ slot + 1 = omega (arith, le) in
    rw (size, at, e) refl
