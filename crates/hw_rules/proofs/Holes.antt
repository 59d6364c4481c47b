-- Covering an interval by holes.
use Rattle.std.proofs.Common.{◌≡◌, ℕ, zero, suc, ◌<◌, ◌≤◌, ℤ, pos, ◌≤ℤ◌, Bool, true, false, cond, not, List, [], ◌∷◌, length, get_or, refl, sym, ap, ◌∙◌, arith, inl, inr}
use Rattle.std.specs.Prelude.{int_lt, ◌<ℤ◌, ◌+ℤ◌, count_by, sum_by, ◌⊎◌, ◌↔◌, IsTrue}
use Rattle.std.specs.List.{list_all, Contains}
use Rattle.std.proofs.lemmas.Int.{ints, by_lt_z}
use Rattle.std.proofs.lemmas.Bool.{and_left, and_right}
use Rattle.std.proofs.lemmas.List.Sums.{sum_by-cons, sum_by-le-sum_by}
use Rattle.hw_lemmas.proofs.Truths.{one_le}
use Rattle.hw_model.specs.declared.rule.Hole.{Hole}
use Rattle.hw_model.specs.Rules.{misses}
use Rattle.hw_rules.specs.Differences.{Covered, HoleAt}

not_missed : (h : Hole) (e : ℤ) → h.lo ≤ℤ e → e ≤ℤ h.hi → misses e h ≡ false
not_missed h e p q = grind (arith, ints)

le_or_gt : (a b : ℤ) → (a ≤ℤ b) ⊎ (b <ℤ a)
le_or_gt a b = by_lt_z b a (λ h. inr h) (λ h. inl h)

-- a list with one that fails fails as a whole
some_fails : {X : Type 0} (test : X → Bool) (xs : List X) (k : ℕ) (x : X) → k < length xs → get_or xs k x ≡ x → test x ≡ false → list_all test xs ≡ false
some_fails test [] k x l e f = absurd (omega arith)
some_fails test (y ∷ ys) zero x l e f = let g : test y ≡ false = ap test e ∙ f in and_left (test y) (list_all test ys) g
some_fails test (y ∷ ys) (suc k) x l e f = and_right (test y) (list_all test ys) (some_fails test ys k x (omega arith) e f)

pub held_through : (holes : List Hole) (h : Hole) (e : ℤ) → Contains holes h → h.lo ≤ℤ e → e ≤ℤ h.hi → list_all (misses e) holes ≡ false
held_through holes h e c p q = some_fails (misses e) holes c.0 h c.1 c.2 (not_missed h e p q)

-- the holes that end at a difference or after it
abbrev pub ahead : ℤ → Hole → Bool
ahead d h = not (int_lt h.hi d)

pub count_less : {X : Type 0} (p q : X → Bool) → ((x : X) → p x ≡ true → q x ≡ true) → (xs : List X) (k : ℕ) (x : X) → k < length xs → get_or xs k x ≡ x → p x ≡ false → q x ≡ true → count_by p xs < count_by q xs
count_less p q i [] k x l e f g = absurd (omega arith)
count_less p q i (y ∷ ys) zero x l e f g =
    let f' : p y ≡ false = ap p e ∙ f in
    let g' : q y ≡ true = ap q e ∙ g in
    let rest : sum_by (λ z. cond (p z) 1 0) ys ≤ sum_by (λ z. cond (q z) 1 0) ys = sum_by-le-sum_by (λ z. cond (p z) 1 0) (λ z. cond (q z) 1 0) ys (λ z. one_le (p z) (q z) (i z)) in
    let a : ◌≡◌ {A = ℕ} (cond (p y) 1 0) 0 = rw f' refl in
    let b : ◌≡◌ {A = ℕ} (cond (q y) 1 0) 1 = rw g' refl in
    omega (arith, sum_by-cons (λ z. cond (p z) 1 0) y ys, sum_by-cons (λ z. cond (q z) 1 0) y ys, rest, a, b)
count_less p q i (y ∷ ys) (suc k) x l e f g =
    let rest : sum_by (λ z. cond (p z) 1 0) ys < sum_by (λ z. cond (q z) 1 0) ys = count_less p q i ys k x (omega arith) e f g in
    let here : cond (p y) 1 0 ≤ cond (q y) 1 0 = one_le (p y) (q y) (i y) in
    omega (arith, sum_by-cons (λ z. cond (p z) 1 0) y ys, sum_by-cons (λ z. cond (q z) 1 0) y ys, rest, here)

ahead_on : (a b : ℤ) → a ≤ℤ b → (h : Hole) → ahead b h ≡ true → ahead a h ≡ true
ahead_on a b le h t = grind (arith, ints)

ahead_at : (d : ℤ) (h : Hole) → d ≤ℤ h.hi → ahead d h ≡ true
ahead_at d h le = grind (arith, ints)

never_past : (h : Hole) → ahead (h.hi +ℤ pos 1) h ≡ false
never_past h = grind (arith, ints)

-- going on after a hole leaves fewer of them
pub fewer_ahead : (holes : List Hole) (d : ℤ) (h : Hole) → HoleAt holes d h → count_by (ahead (h.hi +ℤ pos 1)) holes < count_by (ahead d) holes
fewer_ahead holes d h at =
    let le : d ≤ℤ (h.hi +ℤ pos 1) = omega (arith, ints, at.to) in
    count_less (ahead (h.hi +ℤ pos 1)) (ahead d) (ahead_on d (h.hi +ℤ pos 1) le) holes at.among.0 h at.among.1 at.among.2 (never_past h) (ahead_at d h at.to)

-- an interval is covered if the part after the hole at its low end is
pub past_this_hole : (lo hi : ℤ) (holes : List Hole) (h : Hole) → HoleAt holes lo h → Covered (h.hi +ℤ pos 1) hi holes → Covered lo hi holes
past_this_hole lo hi holes h at rest d p q =
    elim (le_or_gt d h.hi) [
      | inl within ↦ held_through holes h d at.among (omega (arith, ints, at.from)) within
      | inr past ↦ rest d (omega (arith, ints)) q
    ]

pub from_covered : (lo hi : ℤ) (holes : List Hole) (h : Hole) → HoleAt holes lo h → Covered lo hi holes → Covered (h.hi +ℤ pos 1) hi holes
from_covered lo hi holes h at all d p q = all d (omega (arith, ints, at.to)) q

-- the same two, with the numbers as the code computes them
pub next_round : (holes : List Hole) (lo at next : ℤ) (h : Hole) → at ≡ lo → next ≡ (h.hi +ℤ pos 1) → HoleAt holes at h → count_by (ahead next) holes < count_by (ahead lo) holes
next_round holes lo at next h p q held = rw (sym p, q) (fewer_ahead holes at h held)

pub each_round : (holes : List Hole) (lo at next hi end : ℤ) (h : Hole) (r : Bool) → at ≡ lo → next ≡ (h.hi +ℤ pos 1) → end ≡ hi → HoleAt holes at h → (IsTrue r ↔ Covered next end holes) → (IsTrue r ↔ Covered lo hi holes)
each_round holes lo at next hi end h r p q s held both =
    let held' : HoleAt holes lo h = rw p at held in
    let both' : IsTrue r ↔ Covered (h.hi +ℤ pos 1) hi holes = rw (q, s) at both in
    (λ t. past_this_hole lo hi holes h held' (both'.0 t), λ all. both'.1 (from_covered lo hi holes h held' all))
