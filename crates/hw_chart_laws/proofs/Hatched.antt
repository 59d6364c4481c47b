-- Hatches of closed slots: where they begin and end.
use Rattle.std.proofs.Common.{◌≡◌, ◌<◌, ◌≤◌, ◌+◌, ◌-◌, ◌∙◌, ℕ, zero, suc, Bool, true, false, nat_lt, sym, subst, arith, inl, inr}
use Rattle.std.proofs.lemmas.Bool.{and_from, and_left, and_right, cases_Bool, cases_eq, cond_both, le-ltb, not_from_false, true≢false}
use Rattle.hw_chart_port.specs.Closings.{run_begins, run_end}
use Rattle.hw_chart_laws.specs.Thirds.{Hatches}

-- a run doesn't end before it begins
run_low : (shut : ℕ → Bool) (slot count : ℕ) → slot ≤ run_end shut slot count
run_low shut slot zero = omega arith
run_low shut slot (suc more) =
    cond_both (shut slot) (run_end shut (slot + 1) more) slot (λ (end : ℕ). slot ≤ end) (λ e. let low = run_low shut (slot + 1) more in omega (arith, low)) (λ e. omega arith)

-- its slots are closed
run_shut : (shut : ℕ → Bool) (from count slot : ℕ) → from ≤ slot → slot < run_end shut from count → shut slot ≡ true
run_shut shut from zero slot low high = absurd (omega (arith, low, high))
run_shut shut from (suc more) slot low high =
    cond_both (shut from) (run_end shut (from + 1) more) from (λ (end : ℕ). slot < end → shut slot ≡ true) (λ e lt.
    elim (cases_eq from slot) [
      | inl same ↦ subst (λ (k : ℕ). shut k ≡ true) same e
      | inr other ↦ run_shut shut (from + 1) more slot (omega (arith, low, other)) lt
    ]) (λ e lt. absurd (omega (arith, low, lt))) high

-- it reaches over slots that are closed up to this one
run_reaches : (shut : ℕ → Bool) (from count slot : ℕ) → from ≤ slot → slot < from + count → ((k : ℕ) → from ≤ k → k ≤ slot → shut k ≡ true) → slot < run_end shut from count
run_reaches shut from zero slot low high all = absurd (omega (arith, low, high))
run_reaches shut from (suc more) slot low high all =
    cond_both (shut from) (run_end shut (from + 1) more) from (λ (end : ℕ). slot < end) (λ e.
    elim (cases_eq from slot) [
      | inl same ↦ let later = run_low shut (from + 1) more in omega (arith, same, later)
      | inr other ↦ run_reaches shut (from + 1) more slot (omega (arith, low, other)) (omega (arith, high)) (λ k at to. all k (omega (arith, at)) to)
    ]) (λ e. absurd (true≢false (sym (all from (omega arith) low) ∙ e)))

-- where the closed slots begin that end with this one
record Begun (shut : ℕ → Bool) (first slot : ℕ) : Type 0 where
  from : ℕ
  inside : first ≤ from
  reached : from ≤ slot
  begins : run_begins shut first from ≡ true
  all : (k : ℕ) → from ≤ k → k ≤ slot → shut k ≡ true

only : (shut : ℕ → Bool) (slot k : ℕ) → slot ≤ k → k ≤ slot → shut slot ≡ true → shut k ≡ true
only shut slot k low high e =
    let at : slot ≡ k = omega (arith, low, high) in
    subst (λ (j : ℕ). shut j ≡ true) at e

begun : (shut : ℕ → Bool) (first d slot : ℕ) → slot ≡ d + first → shut slot ≡ true → Begun shut first slot
begun shut first zero slot at e = record {
  from = slot;
  inside = omega (arith, at);
  reached = omega arith;
  begins = and_from (shut slot) _ e (not_from_false _ (and_left (nat_lt first slot) (shut (slot - 1)) (le-ltb first slot (omega (arith, at)))));
  all = λ k low high. only shut slot k low high e;
}
begun shut first (suc d) slot at e = elim (cases_Bool (shut (slot - 1))) [
  | inl t ↦
      let before = begun shut first d (slot - 1) (omega (arith, at)) t in
      record {
        from = before.from;
        inside = before.inside;
        reached = let r = before.reached in omega (arith, r);
        begins = before.begins;
        all = λ k low high. elim (cases_eq slot k) [
          | inl same ↦ subst (λ (j : ℕ). shut j ≡ true) same e
          | inr other ↦ before.all k low (omega (arith, high, other))
        ];
      }
  | inr f ↦ record {
    from = slot;
    inside = omega (arith, at);
    reached = omega arith;
    begins = and_from (shut slot) _ e (not_from_false _ (and_right (nat_lt first slot) (shut (slot - 1)) f));
    all = λ k low high. only shut slot k low high e;
  }
]

pub hatched_there : (shut : ℕ → Bool) (first end slot : ℕ) → first ≤ slot → slot < end → shut slot ≡ true → Hatches shut first end slot
hatched_there shut first end slot low high e =
    let b = begun shut first (slot - first) slot (omega (arith, low)) e in
    let r = b.reached in
    record {
      from = b.from;
      inside = b.inside;
      begins = b.begins;
      reached = b.reached;
      not_over = run_reaches shut b.from (end - b.from) slot b.reached (omega (arith, high, r)) b.all;
    }

pub hatched_shut : (shut : ℕ → Bool) (first end slot : ℕ) → Hatches shut first end slot → shut slot ≡ true
hatched_shut shut first end slot h = run_shut shut h.from (end - h.from) slot h.reached h.not_over
