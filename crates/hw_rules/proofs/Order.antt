-- The rank of a list of slots follows the lexicographic order, and each number is one list's rank.
use Rattle.std.proofs.Common.{◌≡◌, ◌↔◌, ℕ, zero, suc, ◌+◌, ◌*◌, ◌^◌, ◌/◌, ◌%◌, ◌<◌, ◌≤◌, List, [], ◌∷◌, length, slice_index, refl, sym, ap, ◌∙◌, arith, inl, inr, subst}
use Rattle.std.specs.List.{AllByRecursion}
use Rattle.std.proofs.lemmas.Bool.{cases_lt}
use Rattle.std.proofs.lemmas.List.Elements.{recursion_from_All, All-from_recursion}
use Rattle.std.proofs.lemmas.Nat.{div-add-mod'}
use Rattle.std.proofs.Math.Nat.{pow-zero, pow-succ', mul-le-mul_right, mod-lt, div-lt_iff_lt-mul}
use Rattle.hw_model.specs.Problem.{Problem, IsTimetable}
use Rattle.hw_model.specs.Walk.{rank, table_count}
use Rattle.hw_rules.specs.Listing.{Precedes}
use Rattle.hw_model_laws.proofs.Rank.{rank_lt, same_rank, lt_by}

-- a lesser first slot outweighs all the others
outweighs : (s x y : ℕ) (xs ys : List ℕ) → AllByRecursion (λ t. t < s) xs → length xs ≡ length ys → x < y → x * s ^ length xs + rank s xs < y * s ^ length ys + rank s ys
outweighs s x y xs ys h n lt =
    let le : x + 1 ≤ y = omega (arith, lt) in
    let one : (x + 1) * s ^ length xs ≤ y * s ^ length xs = mul-le-mul_right (s ^ length xs) le in
    let p : y * s ^ length xs ≡ y * s ^ length ys = ap (λ k. y * s ^ k) n in
    omega (arith, lt_by s xs h, one, p)

same_weight : (s x y : ℕ) (xs ys : List ℕ) → length xs ≡ length ys → x ≡ y → x * s ^ length xs ≡ y * s ^ length ys
same_weight s x y xs ys n e = ap (λ k. x * s ^ k) n ∙ ap (λ k. k * s ^ length ys) e

lesser_by : (s : ℕ) (xs ys : List ℕ) (ship : ℕ) → AllByRecursion (λ t. t < s) xs → length xs ≡ length ys → ((i : ℕ) → i < ship → slice_index xs i ≡ slice_index ys i) → slice_index xs ship < slice_index ys ship → rank s xs < rank s ys
lesser_by s [] [] ship h n same lt = absurd (omega (arith, lt))
lesser_by s [] (y ∷ ys) ship h n same lt = absurd (omega (arith, n))
lesser_by s (x ∷ xs) [] ship h n same lt = absurd (omega (arith, n))
lesser_by s (x ∷ xs) (y ∷ ys) zero h n same lt = outweighs s x y xs ys h.1 (omega (arith, n)) lt
lesser_by s (x ∷ xs) (y ∷ ys) (suc ship) h n same lt =
    let m : length xs ≡ length ys = omega (arith, n) in
    let head : x ≡ y = same 0 (omega arith) in
    let rest : rank s xs < rank s ys = lesser_by s xs ys ship h.1 m (λ i less. same (suc i) (omega (arith, less))) lt in
    omega (arith, rest, same_weight s x y xs ys m head)

from_first : (x y : ℕ) (xs ys : List ℕ) (ship : ℕ) → x ≡ y → ((i : ℕ) → i < ship → slice_index xs i ≡ slice_index ys i) → (i : ℕ) → i < suc ship → slice_index (x ∷ xs) i ≡ slice_index (y ∷ ys) i
from_first x y xs ys ship head same zero lt = head
from_first x y xs ys ship head same (suc i) lt = same i (omega (arith, lt))

precedes_by : (s : ℕ) (xs ys : List ℕ) → AllByRecursion (λ t. t < s) xs → AllByRecursion (λ t. t < s) ys → length xs ≡ length ys → rank s xs < rank s ys → Precedes xs ys
precedes_by s [] [] h g n lt = absurd (omega (arith, lt))
precedes_by s [] (y ∷ ys) h g n lt = absurd (omega (arith, n))
precedes_by s (x ∷ xs) [] h g n lt = absurd (omega (arith, n))
precedes_by s (x ∷ xs) (y ∷ ys) h g n lt =
    let m : length xs ≡ length ys = omega (arith, n) in
    elim (cases_lt x y) [
      | inl less ↦ (0, λ i none. absurd (omega (arith, none)), less)
      | inr ge ↦ elim (cases_lt y x) [
        | inl more ↦ absurd (omega (arith, outweighs s y x ys xs g.1 (sym m) more, lt))
        | inr le ↦
            let head : x ≡ y = omega (arith, ge, le) in
            let r = precedes_by s xs ys h.1 g.1 m (omega (arith, lt, same_weight s x y xs ys m head)) in
            (suc r.0, from_first x y xs ys r.0 head r.1, r.2)
      ]
    ]

pub follows : (f : Problem) (a b : List ℕ) → IsTimetable f a → IsTimetable f b → (Precedes a b ↔ (rank f.slots a < rank f.slots b))
follows f a b h g =
    let n : length a ≡ length b = h.each_ship ∙ sym g.each_ship in
    let below = recursion_from_All _ a h.each_slot in
    let below' = recursion_from_All _ b g.each_slot in
    (λ p. lesser_by f.slots a b p.0 below n p.1 p.2, λ lt. precedes_by f.slots a b below below' n lt)

-- the list of k slots that has this rank
ranked : (s k n : ℕ) → n < s ^ k → (xs : List ℕ) × (length xs ≡ k) × AllByRecursion (λ t. t < s) xs × (rank s xs ≡ n)
ranked s zero n lt =
    let small = rw pow-zero at lt in
    ([], refl, tt, omega (arith, small))
ranked s (suc k) n lt =
    let small : n < s * s ^ k = rw pow-succ' at lt in
    let some : 0 < s ^ k = some_power (s ^ k) s n small in
    let head : n / s ^ k < s = (div-lt_iff_lt-mul some).1 small in
    let r = ranked s k (n % s ^ k) (mod-lt n some) in
    let w : n / s ^ k * s ^ length r.0 ≡ n / s ^ k * s ^ k = ap (λ i. n / s ^ k * s ^ i) r.1 in
    (n / s ^ k ∷ r.0, omega (arith, r.1), (head, r.2), omega (arith, w, r.3, div-add-mod' n (s ^ k)))
  where
    some_power : (p s n : ℕ) → n < s * p → 0 < p
    some_power zero s n lt = absurd (omega (arith, lt))
    some_power (suc p) s n lt = omega arith

below_count : (f : Problem) (table : List ℕ) → IsTimetable f table → rank f.slots table < table_count f
below_count f table h = subst (λ n. rank f.slots table < f.slots ^ n) h.each_ship (rank_lt f.slots table h.each_slot)

at_rank : (f : Problem) (n : ℕ) → n < table_count f → (table : List ℕ) × IsTimetable f table × (rank f.slots table ≡ n)
at_rank f n lt =
    let r = ranked f.slots f.ships n lt in
    (r.0, record { each_ship = r.1; each_slot = All-from_recursion _ _ r.2 }, r.3)

pub once : (f : Problem) → (((table : List ℕ) → IsTimetable f table → rank f.slots table < table_count f) × ((n : ℕ) → n < table_count f → (table : List ℕ) × IsTimetable f table × (rank f.slots table ≡ n)) × ((a b : List ℕ) → IsTimetable f a → IsTimetable f b → rank f.slots a ≡ rank f.slots b → a ≡ b))
once f = (below_count f, at_rank f, λ a b h g e. same_rank f.slots a b h.each_slot g.each_slot (h.each_ship ∙ sym g.each_ship) e)
