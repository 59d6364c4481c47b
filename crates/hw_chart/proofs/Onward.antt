-- Marks on an axis, one after another.
use Rattle.std.proofs.Common.{◌≡◌, ◌≤◌, ◌<◌, ◌+◌, ◌-◌, ◌*◌, ◌++◌, ℕ, suc, [], ap, arith}
use Rattle.std.specs.Int.{div_ceil}
use Rattle.std.proofs.Math.Nat.{mul-le-mul_left}
use Rattle.std.proofs.lemmas.Grind.{div_ceil_times}
use Rattle.hw_chart.specs.Grids.{line_path, line_paths, mark, marks}
use Rattle.hw_chart.specs.declared.grid.Axis.{Axis}

pub paths_next : (a : Axis) (i count : ℕ) → i < count → line_paths a i (count - i) ≡ line_path a (i * a.step) ++ line_paths a (i + 1) (count - (i + 1))
paths_next a i count lt =
    let e : count - i ≡ suc (count - (i + 1)) = omega (arith, lt) in
    ap (line_paths a i) e

pub paths_end : (a : Axis) (i count : ℕ) → count ≤ i → line_paths a i (count - i) ≡ []
paths_end a i count le =
    let e : count - i ≡ 0 = omega (arith, le) in
    ap (line_paths a i) e

pub marks_next : (a : Axis) (i count : ℕ) → i < count → marks a i (count - i) ≡ mark a (i * a.step) ++ marks a (i + 1) (count - (i + 1))
marks_next a i count lt =
    let e : count - i ≡ suc (count - (i + 1)) = omega (arith, lt) in
    ap (marks a i) e

pub marks_end : (a : Axis) (i count : ℕ) → count ≤ i → marks a i (count - i) ≡ []
marks_end a i count le =
    let e : count - i ≡ 0 = omega (arith, le) in
    ap (marks a i) e

-- each mark stands below the total
pub mark_below : (total step i : ℕ) → 0 < step → i < div_ceil total step → i * step < total
mark_below total step i some lt =
    let times = (div_ceil_times total step some).1 in
    let more : suc i ≤ div_ceil total step = omega (arith, lt) in
    let wide = mul-le-mul_left step more in
    omega (arith, times, wide)
