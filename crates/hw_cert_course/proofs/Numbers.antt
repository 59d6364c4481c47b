-- Numbers that are raised keep the limits of a line.
use Rattle.std.proofs.Common.{◌≡◌, ◌<◌, ◌≤◌, ◌+◌, ◌∙◌, ℕ, List, length, map, sym, subst, arith}
use Rattle.std.specs.Prelude.{slice_index}
use Rattle.std.specs.List.Sorted.{IsStrictlyIncreasing}
use Rattle.std.proofs.lemmas.List.{length-map, get_or-map}
use Rattle.std.proofs.lemmas.List.Elements.{All-map}
use Rattle.std.proofs.lemmas.Simd.{map-map}
use Rattle.hw_model.specs.Problem.{Problem}
use Rattle.hw_price_laws.specs.declared.limits.TheConstants.{MOST_PRICE}
use Rattle.hw_price_laws.specs.declared.tariff.Due.{Due}
use Rattle.hw_price_laws.specs.declared.tariff.Tariff.{Tariff}
use Rattle.hw_cert_lines.specs.declared.line.Line.{Line}
use Rattle.hw_cert_lines.specs.declared.line.Line.TheVariants as lines
use Rattle.hw_cert_lines.specs.Valid.{LineFits}
use Rattle.hw_cert_course.specs.Raising.{KeepsFit, raised_numbers, raised_prices}

number_at : (by : ℕ) (ids : List ℕ) (k : ℕ) → k < length ids → slice_index (raised_numbers by ids) k ≡ slice_index ids k + by
number_at by ids k lt = get_or-map (λ id. id + by) ids k _ _ lt

same_length : (by : ℕ) (ids : List ℕ) → length (raised_numbers by ids) ≡ length ids
same_length by ids = length-map ids (λ id. id + by)

pub still_rises : (by : ℕ) (ids : List ℕ) → IsStrictlyIncreasing ids → IsStrictlyIncreasing (raised_numbers by ids)
still_rises by ids h k lt =
    let same = same_length by ids in
    let next : k + 1 < length ids = omega (arith, same, lt) in
    let this : k < length ids = omega (arith, next) in
    let a = number_at by ids k this in
    let b = number_at by ids (k + 1) next in
    let less = h k next in
    omega (arith, a, b, less)

pub raised_delete : (f : Problem) (by : ℕ) (ids : List ℕ) → LineFits f (lines.Delete ids) → LineFits f (lines.Delete (raised_numbers by ids))
raised_delete f by ids h =
    let same = same_length by ids in
    let some : 0 < length (raised_numbers by ids) = omega (arith, same, h.0) in
    let first = number_at by ids 0 h.0 in
    let above : 0 < slice_index (raised_numbers by ids) 0 = omega (arith, first, h.1) in
    (some, above, still_rises by ids h.2)

pub raised_tariff : (f : Problem) (by : ℕ) (tariff : Tariff) → LineFits f (lines.Tariff tariff) → LineFits f (lines.Tariff (record { scale = tariff.scale; dues = raised_prices by tariff.dues }))
raised_tariff f by tariff h = record {
  small_scale = h.small_scale;
  from_one = All-map (λ (one : Due). 0 < one.toll) (λ (one : Due). record { toll = one.toll + by; price = one.price }) tariff.dues (λ i x lt. omega (arith, h.from_one i x lt));
  ascend = subst IsStrictlyIncreasing tolls (still_rises by (map (λ one. one.toll) tariff.dues) h.ascend);
  small_prices = All-map (λ (one : Due). one.price ≤ MOST_PRICE) (λ (one : Due). record { toll = one.toll + by; price = one.price }) tariff.dues h.small_prices;
}
  where
    tolls : raised_numbers by (map (λ one. one.toll) tariff.dues) ≡ map (λ one. one.toll) (raised_prices by tariff.dues)
    tolls = map-map (λ id. id + by) (λ (one : Due). one.toll) tariff.dues ∙ sym (map-map (λ (one : Due). one.toll) (λ (one : Due). record { toll = one.toll + by; price = one.price }) tariff.dues)

-- ---- by what the line is

pub delete_as : (line : Line) (ids items : List ℕ) (by : ℕ) → line ≡ lines.Delete ids → items ≡ raised_numbers by ids → KeepsFit line (lines.Delete items)
delete_as line ids items by is same f h = subst (λ (xs : List ℕ). LineFits f (lines.Delete xs)) (sym same) (raised_delete f by ids (subst (LineFits f) is h))

pub tariff_as : (line : Line) (tariff : Tariff) (by : ℕ) (items : List Due) → line ≡ lines.Tariff tariff → items ≡ raised_prices by tariff.dues → KeepsFit line (lines.Tariff (record { scale = tariff.scale; dues = items }))
tariff_as line tariff by items is same f h = subst (λ (xs : List Due). LineFits f (lines.Tariff (record { scale = tariff.scale; dues = xs }))) (sym same) (raised_tariff f by tariff (subst (LineFits f) is h))
