-- The kept sum.
use Rattle.std.proofs.Common.{◌≡◌, ℕ, suc, ◌+◌, ◌*◌, ◌<◌, ◌≤◌, List, [], ◌∷◌, length, get_or, set, sum_by, refl, sym, ◌∙◌, ap, subst, arith, inl, inr, length-set, get_or-set_same, get_or-set_other}
use Rattle.std.proofs.lemmas.Bool.{cases_eq}
use Rattle.std.proofs.lemmas.List.Sums.{sum_by-cons, sum_by-set, get_or-le-sum_by}
use Rattle.std.specs.List.{range_with_len}
use Rattle.hw_model.specs.Problem.{Problem}
use Rattle.hw_model.specs.Rooms.{RoomModel, low_of, high_of}
use Rattle.hw_model.specs.Refuting.{greatest_value, greatest_sum}
use Rattle.hw_goal.specs.declared.tops.Top.{Top}
use Rattle.hw_goal.specs.declared.tops.Figures.{Figures}
use Rattle.hw_goal.specs.Kept.{IsTop, AreKept, SeenIn, top_at}
use Rattle.hw_goal.proofs.Greatest.{top_value, top_small}

abbrev pub value_of : Top → ℕ
value_of top = top.peak.value

abbrev pub none : Top
none = record { low = 0; high = 0; peak = record { slot = 0; value = 0 }; row = 0 }

-- a sum over a list is one over its places
by_index : {X : Type 0} (h : X → ℕ) (g : ℕ → ℕ) (d : X) (xs : List X) (a : ℕ) → ((k s : ℕ) → s ≡ a + k → k < length xs → h (get_or xs k d) ≡ g s) → sum_by h xs ≡ sum_by g (range_with_len a (length xs))
by_index h g d [] a same = refl
by_index h g d (x ∷ xs) a same =
    let here : h x ≡ g a = same 0 a (omega arith) (omega arith) in
    let rest : sum_by h xs ≡ sum_by g (range_with_len (a + 1) (length xs)) = by_index h g d xs (a + 1) (λ k s e lt. same (suc k) s (omega (arith, e)) (omega (arith, lt))) in
    omega (arith, here, rest, sum_by-cons h x xs, sum_by-cons g a (range_with_len (a + 1) (length xs)))

sum_le : {X : Type 0} (h : X → ℕ) (m : ℕ) (d : X) (xs : List X) → ((k : ℕ) → k < length xs → h (get_or xs k d) ≤ m) → sum_by h xs ≤ length xs * m
sum_le h m d [] each = omega arith
sum_le h m d (x ∷ xs) each =
    let here : h x ≤ m = each 0 (omega arith) in
    let rest : sum_by h xs ≤ length xs * m = sum_le h m d xs (λ k lt. each (suc k) (omega (arith, lt))) in
    omega (arith, here, rest, sum_by-cons h x xs)

-- the kept sum is that of the room in which the ships were seen
pub kept_sum : (f : Problem) (figures : Figures) (room : RoomModel) → AreKept f f.ships figures → SeenIn room f.ships figures → figures.sum ≡ greatest_sum f room
kept_sum f figures room kept seen =
    let g : ℕ → ℕ = λ ship. greatest_value f ship (low_of room ship) (high_of room ship) in
    let each : (k s : ℕ) → s ≡ 0 + k → k < length figures.tops.items → value_of (get_or figures.tops.items k none) ≡ g s = λ k s e lt.
    let in_ships : k < f.ships = omega (arith, lt, kept.size) in
    let same : k ≡ s = omega (arith, e) in
    top_value f k (low_of room k) (high_of room k) (get_or figures.tops.items k none) (kept.each k in_ships) (seen k in_ships).0 (seen k in_ships).1 ∙ ap g same in
    kept.sum ∙ by_index value_of g none figures.tops.items 0 each ∙ ap (λ n. sum_by g (range_with_len 0 n)) kept.size

pub sum_small : (f : Problem) (ships : ℕ) (figures : Figures) → AreKept f ships figures → ships ≤ 40 → figures.sum ≤ 40_000_000_000_000
sum_small f ships figures kept few =
    let all : sum_by value_of figures.tops.items ≤ length figures.tops.items * 1_000_000_000_000 = sum_le value_of 1_000_000_000_000 none figures.tops.items (λ k lt. top_small f k (get_or figures.tops.items k none) (kept.each k (omega (arith, lt, kept.size)))) in
    omega (arith, all, kept.size, few, kept.sum)

-- a ship's value is a part of the sum
pub part_of_sum : (f : Problem) (ships : ℕ) (figures : Figures) (ship : ℕ) → AreKept f ships figures → ship < ships → value_of (top_at figures.tops.items ship) ≤ figures.sum
part_of_sum f ships figures ship kept lt = omega (arith, kept.sum, get_or-le-sum_by value_of figures.tops.items ship none (omega (arith, lt, kept.size)))

-- what is kept after one ship's was mended
pub kept_set : (f : Problem) (ships : ℕ) (figures after : Figures) (ship : ℕ) (new : Top) → AreKept f ships figures → ship < ships → IsTop f ship new → after.tops.items ≡ set figures.tops.items ship new
    → after.sum + value_of (top_at figures.tops.items ship) ≡ figures.sum + value_of new → AreKept f ships after
kept_set f ships figures after ship new kept lt top is sum =
    let inside : ship < length figures.tops.items = omega (arith, lt, kept.size) in
    record {
      size = ap length is ∙ length-set figures.tops.items ship new ∙ kept.size;
      each = λ u l. subst (λ xs. IsTop f u (top_at xs u)) (sym is) (elim (cases_eq u ship) [
        | inl same ↦ subst (λ k. IsTop f k (top_at (set figures.tops.items ship new) k)) (sym same) (subst (IsTop f ship) (sym (get_or-set_same figures.tops.items ship new none inside)) top)
        | inr other ↦ subst (IsTop f u) (sym (get_or-set_other figures.tops.items ship u new none other)) (kept.each u l)
      ]);
      sum =
          let mended : sum_by value_of (set figures.tops.items ship new) + value_of (top_at figures.tops.items ship) ≡ sum_by value_of figures.tops.items + value_of new = sum_by-set value_of figures.tops.items ship new none inside in
          let total : after.sum ≡ sum_by value_of (set figures.tops.items ship new) = omega (arith, mended, sum, kept.sum) in
          total ∙ ap (sum_by value_of) (sym is);
    }
