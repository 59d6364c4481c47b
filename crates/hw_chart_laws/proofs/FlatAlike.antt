-- Rows of a flat problem's picture that are written alike show ships that carry alike.
use Rattle.std.proofs.Common.{◌≡◌, ◌↔◌, ◌<◌, ◌≤◌, ◌+◌, ◌-◌, ◌*◌, ◌/◌, ◌^◌, ◌++◌, ◌∙◌, ℕ, zero, suc, Bool, true, false, nat_eq, Option, Some, None, IfSome, option_and_then, unwrap_or, slice_get, List, [], codes, decimal, refl, ap, sym, subst, arith, if◌then◌else◌}
use Rattle.std.proofs.Math.Nat.{div-le_self, div-mul-le_self}
use Rattle.std.proofs.lemmas.Bool.Decides.{Decides-eqb}
use Rattle.std.proofs.lemmas.Fmt.{decimal_injective}
use Rattle.std.proofs.lemmas.List.{append_cancel_left, append_cancel_right}
use Rattle.std.proofs.lemmas.Nat.{le-div}
use Rattle.hw_model.specs.Limits.{IsFlat}
use Rattle.hw_model.specs.Problem.{IsTimetable, Problem, horizon, value_at}
use Rattle.hw_flat.specs.Carried.{worth}
use Rattle.hw_port_laws.proofs.Eachs.{each_at, each_of_all}
use Rattle.hw_chart.specs.Figures.{greatest_level}
use Rattle.hw_chart_flat.specs.declared.row.Row.{Row}
use Rattle.hw_chart_flat.specs.Rows.{row_top}
use Rattle.hw_chart_flat.specs.Values.{most_carried, most_level, tall_of, unit_of, value_level}
use Rattle.hw_chart_laws.specs.Alike.{CarryAlike, SameClass, flat_row}
use Rattle.hw_chart_laws.proofs.Bars.{full_where}
use Rattle.hw_chart_laws.proofs.FlatRowParts.{ground_area, levels, most_line, most_text, shared, stripe_on, tall_in, title_in, tops, written}
use Rattle.hw_chart_laws.proofs.Shown.{IsSmall, block_back, figure_back, line_back}

-- ---- the numbers of a ship

value_small : (o : Option (Option ℕ)) → IfSome o (λ v. unwrap_or v 0 ≤ 1_000_000_000_000) → unwrap_or (option_and_then (λ v. v) o) 0 ≤ 1_000_000_000_000
value_small None h = omega arith
value_small (Some v) h = h

carried_small : (f : Problem) (ship slot : ℕ) → IsFlat f → worth f ship slot ≤ 1_000_000_000_000
carried_small f ship slot limits =
    let Few : Option ℕ → Type 0 = λ v. unwrap_or v 0 ≤ 1_000_000_000_000 in
    value_small (slice_get f.values (ship * f.slots + slot)) (each_at Few f.values (ship * f.slots + slot) (each_of_all Few f.values limits.small_values))

greatest_small : (level : ℕ → ℕ) (count bound : ℕ) → ((k : ℕ) → level k ≤ bound) → greatest_level level count ≤ bound
greatest_small level zero bound h = omega arith
greatest_small level (suc count) bound h =
    let here = h count in
    let before = greatest_small level count bound h in
    omega (arith, here, before)

most_small : (f : Problem) (ship : ℕ) → IsFlat f → most_carried f ship ≤ 1_000_000_000_000
unfolding most_carried
most_small f ship limits = greatest_small (worth f ship) (horizon f) 1_000_000_000_000 (λ k. carried_small f ship k limits)

tall_small : (top : ℕ) → top ≤ 1_000_000_000_000 → tall_of top ≤ 3_000_000_000_000
tall_small top le = let units = div-le_self top (unit_of top) in omega (arith, units, le)

level_small : (top : ℕ) (o : Option ℕ) → top ≤ 1_000_000_000_000 → value_level top o < 2 ^ 64
level_small top None le = let tall = tall_small top le in omega (arith, tall)
level_small top (Some v) le = let units = div-le_self (top - v) (unit_of top) in omega (arith, units, le)

top_by : (b : Bool) (tall : ℕ) → tall ≤ 3_000_000_000_000 → (if b then 0 else tall) < 2 ^ 64
top_by true tall le = omega arith
top_by false tall le = omega (arith, le)

top_small : (top : ℕ) (o : Option ℕ) → top ≤ 1_000_000_000_000 → most_level top o < 2 ^ 64
top_small top None le = let tall = tall_small top le in omega (arith, tall)
top_small top (Some v) le = top_by (nat_eq v top) (tall_of top) (tall_small top le)

-- ---- classes, read back from levels

below_foot : (top v : ℕ) → (top - v) / unit_of top < tall_of top
below_foot top v =
    let whole = div-mul-le_self (top - v) (unit_of top) in
    let part : (top - v) / unit_of top ≤ top / unit_of top = le-div ((top - v) / unit_of top) top (unit_of top) (omega arith) (omega (arith, whole)) in
    omega (arith, part)

class_back : (top : ℕ) (o q : Option ℕ) → value_level top o ≡ value_level top q → SameClass top o q
class_back top None None e = tt
class_back top None (Some v) e = let below = below_foot top v in absurd (omega (arith, below, e))
class_back top (Some v) None e = let below = below_foot top v in absurd (omega (arith, below, e))
class_back top (Some v) (Some w) e = e

most_where : (top : ℕ) (o : Option ℕ) → (most_level top o ≡ 0) ↔ (o ≡ Some top)
most_where top None = (λ e. absurd (omega (arith, e)), λ e. absurd cc)
most_where top (Some v) =
    let same : (nat_eq v top ≡ true) ↔ (v ≡ top) = Decides-eqb v top in
    full_where (nat_eq v top) (tall_of top) (Some v ≡ Some top) (omega arith) (λ e. let f = same.0 e in cc, λ e. same.1 cc)

mosts_back : (top : ℕ) (o q : Option ℕ) → most_level top o ≡ most_level top q → (o ≡ Some top) ↔ (q ≡ Some top)
mosts_back top o q e = (λ p. (most_where top q).0 (sym e ∙ (most_where top o).1 p), λ p. (most_where top o).0 (e ∙ (most_where top q).1 p))

-- ---- the law

ground_small : (f : Problem) (row : Row) → IsFlat f → IsSmall (ground_area f row)
ground_small f row limits =
    let tall = tall_small (most_carried f row.ship) (most_small f row.ship limits) in
    record { left = omega arith; top = omega arith; right = omega (arith, limits.few_slots); bottom = omega (arith, tall) }

row_small : (row : Row) → row.rank ≤ 40 → row_top row + 33 < 2 ^ 64
row_small row few = omega (arith, few)

tops_same : (f g : Problem) (a b : Row) → IsFlat f → IsFlat g → a.rank ≤ 40 → b.rank ≤ 40 → most_line f a ≡ most_line g b → most_carried f a.ship ≡ most_carried g b.ship
tops_same f g a b limits also_limits few also_few e =
    let m = most_small f a.ship limits in
    let n = most_small g b.ship also_limits in
    let text = line_back (codes "m") 16 (row_top a + 33) (row_top b + 33) (most_text f a) (most_text g b) (row_small a few) (row_small b also_few) e in
    decimal_injective (most_carried f a.ship) (most_carried g b.ship) (omega (arith, m)) (omega (arith, n)) (append_cancel_right (decimal (most_carried f a.ship)) (decimal (most_carried g b.ship)) [] (append_cancel_left (codes "most ") (decimal (most_carried f a.ship) ++ []) (decimal (most_carried g b.ship) ++ []) text))

rows_alike : (f g : Problem) (a b : Row) (m n : List ℕ) → IsFlat f → IsFlat g → a.rank ≤ 40 → b.rank ≤ 40 → title_in f a ++ stripe_on f a m ≡ title_in g b ++ stripe_on g b n → CarryAlike f a.ship g b.ship
rows_alike f g a b m n limits also_limits few also_few e =
    let parts = shared f g a b m n e in
    let small = most_small f a.ship limits in
    let also_small = most_small g b.ship also_limits in
    let top = tops_same f g a b limits also_limits few also_few parts.carries in
    let sides = block_back (codes "wi") (ground_area f a) (ground_area g b) (ground_small f a limits) (ground_small g b also_limits) parts.ground in
    let slots : horizon f ≡ horizon g = sides.right in
    let count : horizon f - 0 ≡ horizon g - 0 = omega (arith, slots) in
    let tall : tall_in f a ≡ tall_in g b = sides.bottom in
    let value_levels = figure_back (codes "dr") (levels f a) (levels g b) 0 (horizon f - 0) (tall_in f a) 0 (horizon g - 0) (tall_in g b) (λ k. level_small (most_carried f a.ship) (value_at f a.ship k) small) (λ k. level_small (most_carried g b.ship) (value_at g b.ship k) also_small) refl count tall parts.values in
    let most_levels = figure_back (codes "fl") (tops f a) (tops g b) 0 (horizon f - 0) (tall_in f a) 0 (horizon g - 0) (tall_in g b) (λ k. top_small (most_carried f a.ship) (value_at f a.ship k) small) (λ k. top_small (most_carried g b.ship) (value_at g b.ship k) also_small) refl count tall parts.mosts in
    record {
      slots = slots;
      top = top;
      classes = λ slot lt. class_back (most_carried f a.ship) (value_at f a.ship slot) (value_at g b.ship slot) (value_levels slot (omega arith) (omega (arith, lt)) ∙ ap (λ (t : ℕ). value_level t (value_at g b.ship slot)) (sym top));
      mosts = λ slot lt. mosts_back (most_carried f a.ship) (value_at f a.ship slot) (value_at g b.ship slot) (most_levels slot (omega arith) (omega (arith, lt)) ∙ ap (λ (t : ℕ). most_level t (value_at g b.ship slot)) (sym top));
    }

pub same_classes : (f g : Problem) (table given : Option (List ℕ)) (ship other : ℕ) → IsFlat f → IsFlat g → IfSome table (IsTimetable f) → IfSome given (IsTimetable g) → ship < f.ships → other < g.ships → flat_row f table ship ≡ flat_row g given other → CarryAlike f ship g other
same_classes f g table given ship other limits also_limits listed listing lt less e =
    let a = written f table ship limits listed lt in
    let b = written g given other also_limits listing less in
    let alike = rows_alike f g a.row b.row a.more b.more limits also_limits a.few b.few (sym a.same ∙ e ∙ b.same) in
    subst (λ (n : ℕ). CarryAlike f ship g n) b.own (subst (λ (n : ℕ). CarryAlike f n g b.row.ship) a.own alike)
