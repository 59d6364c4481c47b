-- The slots of two ranges and their differences.
use Rattle.std.proofs.Common.{◌≡◌, ℕ, suc, ◌≤◌, ◌+◌, ◌-◌, max, ℤ, pos, negsuc, ◌≤ℤ◌, List, sym, ap, ◌∙◌, arith}
use Rattle.std.specs.Prelude.{◌-ℤ◌}
use Rattle.std.specs.List.{list_all}
use Rattle.std.proofs.lemmas.Int.{ints, clamps}
use Rattle.hw_model.specs.declared.rule.Hole.{Hole}
use Rattle.hw_rules.specs.declared.spacing.Two.{Two}
use Rattle.hw_model.specs.declared.order.Order.{Order}
use Rattle.hw_model.specs.declared.order.Order.TheVariants.{Unset, First, NotFirst}
use Rattle.hw_model.specs.Rules.{misses}
use Rattle.hw_rules.specs.Differences.{Covered, NonePasses, clears, Agrees, HasSlots, least, greatest}

abbrev two_of : ℕ → ℕ → ℕ → ℕ → Order → Two
two_of a b c d o = record { low_v = a; high_v = b; low_w = c; high_w = d; order = o }

-- slots inside have a difference in the interval
inside_differs : (o : Order) (a b c d x y : ℕ) → a ≤ x → x ≤ b → c ≤ y → y ≤ d → Agrees o x y → (least (two_of a b c d o) ≤ℤ (pos y -ℤ pos x)) × ((pos y -ℤ pos x) ≤ℤ greatest (two_of a b c d o))
inside_differs Unset a b c d x y p q r s g = (omega (arith, ints), omega (arith, ints))
inside_differs First a b c d x y p q r s g = (omega (arith, ints, clamps), omega (arith, ints))
inside_differs NotFirst a b c d x y p q r s g = (omega (arith, ints), omega (arith, ints, clamps))

-- slots inside with a given difference
record Found (o : Order) (a b c d : ℕ) (e : ℤ) : Type 0 where
  x : ℕ
  y : ℕ
  above_v : a ≤ x
  below_v : x ≤ b
  above_w : c ≤ y
  below_w : y ≤ d
  agrees : Agrees o x y
  differs : (pos y -ℤ pos x) ≡ e

differs_up : (x n : ℕ) → (pos (x + n) -ℤ pos x) ≡ pos n
differs_up x n = omega (arith, ints)

differs_down : (y n : ℕ) → (pos y -ℤ pos (y + suc n)) ≡ negsuc n
differs_down y n = omega (arith, ints)

slots_for : (o : Order) (a b c d : ℕ) (e : ℤ) → a ≤ b → c ≤ d → least (two_of a b c d o) ≤ℤ e → e ≤ℤ greatest (two_of a b c d o) → Found o a b c d e
slots_for Unset a b c d (pos n) p q l g = record {
  x = max a (c - n);
  y = max a (c - n) + n;
  above_v = omega arith;
  below_v = omega (arith, ints);
  above_w = omega arith;
  below_w = omega (arith, ints);
  agrees = tt;
  differs = differs_up (max a (c - n)) n;
}
slots_for Unset a b c d (negsuc n) p q l g = record {
  x = max c (a - suc n) + suc n;
  y = max c (a - suc n);
  above_v = omega arith;
  below_v = omega (arith, ints);
  above_w = omega arith;
  below_w = omega (arith, ints);
  agrees = tt;
  differs = differs_down (max c (a - suc n)) n;
}
slots_for First a b c d (pos n) p q l g = record {
  x = max a (c - n);
  y = max a (c - n) + n;
  above_v = omega arith;
  below_v = omega (arith, ints, clamps);
  above_w = omega arith;
  below_w = omega (arith, ints);
  agrees = omega (arith, ints, clamps);
  differs = differs_up (max a (c - n)) n;
}
slots_for First a b c d (negsuc n) p q l g = absurd (omega (arith, ints, clamps))
slots_for NotFirst a b c d (pos n) p q l g = record {
  x = max a (c - n);
  y = max a (c - n) + n;
  above_v = omega arith;
  below_v = omega (arith, ints);
  above_w = omega arith;
  below_w = omega (arith, ints, clamps);
  agrees = omega (arith, ints, clamps);
  differs = differs_up (max a (c - n)) n;
}
slots_for NotFirst a b c d (negsuc n) p q l g = record {
  x = max c (a - suc n) + suc n;
  y = max c (a - suc n);
  above_v = omega arith;
  below_v = omega (arith, ints);
  above_w = omega arith;
  below_w = omega (arith, ints, clamps);
  agrees = omega arith;
  differs = differs_down (max c (a - suc n)) n;
}

-- THE LAW: no two slots pass exactly where the interval of differences is covered by the holes
pub covered_refutes : (t : Two) (holes : List Hole) → Covered (least t) (greatest t) holes → NonePasses (clears holes) t
covered_refutes t holes all x y i =
    let e = inside_differs t.order t.low_v t.high_v t.low_w t.high_w x y i.above_v i.below_v i.above_w i.below_w i.agrees in
    all (pos y -ℤ pos x) e.0 e.1

pub refuted_covers : (t : Two) (holes : List Hole) → HasSlots t → NonePasses (clears holes) t → Covered (least t) (greatest t) holes
refuted_covers t holes some r d l g =
    let f = slots_for t.order t.low_v t.high_v t.low_w t.high_w d some.some_v some.some_w l g in
    ap (λ e. list_all (misses e) holes) (sym f.differs) ∙ r f.x f.y (record { above_v = f.above_v; below_v = f.below_v; above_w = f.above_w; below_w = f.below_w; agrees = f.agrees })
