-- Windows of a hole: which slots they keep apart, and that no two slots of the hole are forgotten.
use Rattle.std.proofs.Common.{◌≡◌, ℕ, ◌+◌, ◌-◌, ◌/◌, ◌<◌, ◌≤◌, ℤ, pos, negsuc, ◌≤ℤ◌, min, false, refl, arith}
use Rattle.std.specs.Prelude.{◌<ℤ◌, ◌+ℤ◌, ◌-ℤ◌}
use Rattle.std.proofs.lemmas.Int.{ints, by_lt_z}
use Rattle.std.proofs.Math.Nat.{div-le_self}
use Rattle.hw_model.specs.declared.rule.Hole.{Hole}
use Rattle.hw_model.specs.Problem.{Problem, horizon}
use Rattle.hw_model.specs.Rules.{misses}
use Rattle.hw_flat_programme.specs.declared.span.Span.{Span}
use Rattle.hw_flat_programme.specs.Rows.{slot_from, width, first_window, partner}
use Rattle.hw_flat_programme.proofs.Sits.{IsIn}

-- ---- the first slot that isn't before a time

pub slot_from_le : (z : ℤ) (n : ℕ) → slot_from z ≤ n → z ≤ℤ pos n
slot_from_le (pos k) n le = omega (arith, ints, le)
slot_from_le (negsuc k) n le = omega (arith, ints)

pub le_slot_from : (z : ℤ) (n : ℕ) → z ≤ℤ pos n → slot_from z ≤ n
le_slot_from (pos k) n le = omega (arith, ints, le)
le_slot_from (negsuc k) n le = omega arith

pub lt_slot_from : (z : ℤ) (n : ℕ) → n < slot_from z → pos n <ℤ z
lt_slot_from (pos k) n lt = omega (arith, ints, lt)
lt_slot_from (negsuc k) n lt = absurd (omega (arith, lt))

pub slot_from_lt : (z : ℤ) (n : ℕ) → pos n <ℤ z → n < slot_from z
slot_from_lt (pos k) n lt = omega (arith, ints, lt)
slot_from_lt (negsuc k) n lt = absurd (omega (arith, ints, lt))

slot_from_is : (z : ℤ) → pos 0 ≤ℤ z → pos (slot_from z) ≡ z
slot_from_is (pos k) le = refl
slot_from_is (negsuc k) le = absurd (omega (arith, ints, le))

-- a window is no wider than its hole
pub width_le : (hole : Hole) → hole.lo ≤ℤ hole.hi → pos (width hole) ≤ℤ ((hole.hi -ℤ hole.lo) +ℤ pos 1)
width_le hole le =
    let some : pos 0 ≤ℤ (hole.hi -ℤ hole.lo) = omega (arith, ints, le) in
    let same = slot_from_is (hole.hi -ℤ hole.lo) some in
    let half : slot_from (hole.hi -ℤ hole.lo) / 2 ≤ slot_from (hole.hi -ℤ hole.lo) = div-le_self (slot_from (hole.hi -ℤ hole.lo)) 2 in
    omega (arith, ints, same, half)

-- ---- what windows keep apart

-- slots of a span and of its partner lie in the hole
pub partner_in_hole : (f : Problem) (w : ℕ) (hole : Hole) (span : Span) (x y : ℕ) → IsIn x span → IsIn y (partner f w hole span) → misses (pos y -ℤ pos x) hole ≡ false
partner_in_hole f w hole span x y i j =
    held span.from span.to i.0 i.1
    (slot_from_le ((pos span.to -ℤ pos 1) +ℤ hole.lo) y j.0)
    (lt_slot_from ((pos span.from +ℤ hole.hi) +ℤ pos 1) y (omega (arith, j.1)))
  where
    between : (d : ℤ) → hole.lo ≤ℤ d → d ≤ℤ hole.hi → misses d hole ≡ false
    between d p q = grind (arith, ints)

    held : (from to : ℕ) → from ≤ x → x < to → ((pos to -ℤ pos 1) +ℤ hole.lo) ≤ℤ pos y → pos y <ℤ ((pos from +ℤ hole.hi) +ℤ pos 1) → misses (pos y -ℤ pos x) hole ≡ false
    held from to le lt low high =
        let least : hole.lo ≤ℤ (pos y -ℤ pos x) = omega (arith, ints, low, lt) in
        let most : (pos y -ℤ pos x) ≤ℤ hole.hi = omega (arith, ints, high, le) in
        between (pos y -ℤ pos x) least most

-- the last slot of a first window that has the one slot, and whose partner has the other
pub record IsFound (f : Problem) (v w : ℕ) (hole : Hole) (x y : ℕ) : Type 0 where
  pub last : ℕ
  pub few : last < horizon f + width hole - 1
  pub first : IsIn x (first_window f v hole last)
  pub second : IsIn y (partner f w hole (first_window f v hole last))

at_last : (f : Problem) (v w : ℕ) (hole : Hole) (x y last : ℕ) → x < horizon f → y < horizon f → x ≤ last → last + 1 ≤ x + width hole
    → (pos last +ℤ hole.lo) ≤ℤ pos y → pos y <ℤ ((pos (last + 1 - width hole) +ℤ hole.hi) +ℤ pos 1) → IsFound f v w hole x y
at_last f v w hole x y last x_in y_in le near low high = record {
  last = last;
  few = omega (arith, x_in, near);
  first = (omega (arith, near), omega (arith, le, x_in));
  second = (le_slot_from ((pos (min (last + 1) (horizon f)) -ℤ pos 1) +ℤ hole.lo) y (lower (min (last + 1) (horizon f)) (omega arith)), both (slot_from_lt ((pos (last + 1 - width hole) +ℤ hole.hi) +ℤ pos 1) y high));
}
  where
    lower : (to : ℕ) → to ≤ last + 1 → ((pos to -ℤ pos 1) +ℤ hole.lo) ≤ℤ pos y
    lower to few = omega (arith, ints, low, few)

    both : y < slot_from ((pos (last + 1 - width hole) +ℤ hole.hi) +ℤ pos 1) → y < min (horizon f) (slot_from ((pos (last + 1 - width hole) +ℤ hole.hi) +ℤ pos 1))
    both lt = omega (arith, lt, y_in)

-- slots whose difference the hole holds are found
pub find_window : (f : Problem) (v w : ℕ) (hole : Hole) (x y : ℕ) → x < horizon f → y < horizon f → hole.lo ≤ℤ hole.hi → misses (pos y -ℤ pos x) hole ≡ false → IsFound f v w hole x y
find_window f v w hole x y x_in y_in ordered missed =
    let low : hole.lo ≤ℤ (pos y -ℤ pos x) = least (pos y -ℤ pos x) missed in
    let high : (pos y -ℤ pos x) ≤ℤ hole.hi = most (pos y -ℤ pos x) missed in
    by_lt_z (pos y) ((pos (x + 1 - width hole) +ℤ hole.hi) +ℤ pos 1)
    (λ near. at_last f v w hole x y x x_in y_in (omega arith) (omega arith) (omega (arith, ints, low)) near)
    (λ far. from_end low high far)
  where
    least : (d : ℤ) → misses d hole ≡ false → hole.lo ≤ℤ d
    least d e = grind (arith, ints)

    most : (d : ℤ) → misses d hole ≡ false → d ≤ℤ hole.hi
    most d e = grind (arith, ints)

    positive : (n : ℕ) → ((pos (x + 1 - n) +ℤ hole.hi) +ℤ pos 1) ≤ℤ pos y → 1 ≤ n → pos 0 ≤ℤ (((pos y -ℤ hole.hi) +ℤ pos n) -ℤ pos 1)
    positive n far some = omega (arith, ints, far, some)

    after_x : (n last : ℕ) → ((pos (x + 1 - n) +ℤ hole.hi) +ℤ pos 1) ≤ℤ pos y → pos last ≡ (((pos y -ℤ hole.hi) +ℤ pos n) -ℤ pos 1) → x ≤ last
    after_x n last far same = omega (arith, ints, far, same)

    near_x : (n last : ℕ) → (pos y -ℤ pos x) ≤ℤ hole.hi → pos last ≡ (((pos y -ℤ hole.hi) +ℤ pos n) -ℤ pos 1) → last + 1 ≤ x + n
    near_x n last high same = omega (arith, ints, high, same)

    low_end : (n last : ℕ) → pos n ≤ℤ ((hole.hi -ℤ hole.lo) +ℤ pos 1) → pos last ≡ (((pos y -ℤ hole.hi) +ℤ pos n) -ℤ pos 1) → (pos last +ℤ hole.lo) ≤ℤ pos y
    low_end n last short same = omega (arith, ints, short, same)

    high_end : (n last : ℕ) → pos last ≡ (((pos y -ℤ hole.hi) +ℤ pos n) -ℤ pos 1) → pos y <ℤ ((pos (last + 1 - n) +ℤ hole.hi) +ℤ pos 1)
    high_end n last same = omega (arith, ints, same)

    from_end : hole.lo ≤ℤ (pos y -ℤ pos x) → (pos y -ℤ pos x) ≤ℤ hole.hi → ((pos (x + 1 - width hole) +ℤ hole.hi) +ℤ pos 1) ≤ℤ pos y → IsFound f v w hole x y
    from_end low high far =
        let last : ℕ = slot_from (((pos y -ℤ hole.hi) +ℤ pos (width hole)) -ℤ pos 1) in
        let same : pos last ≡ (((pos y -ℤ hole.hi) +ℤ pos (width hole)) -ℤ pos 1) = slot_from_is (((pos y -ℤ hole.hi) +ℤ pos (width hole)) -ℤ pos 1) (positive (width hole) far (omega arith)) in
        at_last f v w hole x y last x_in y_in (after_x (width hole) last far same) (near_x (width hole) last high same) (low_end (width hole) last (width_le hole ordered) same) (high_end (width hole) last same)
