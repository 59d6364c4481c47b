-- Marks from midnight on, one after another.
use Rattle.std.proofs.Common.{◌≡◌, ◌≤◌, ◌<◌, ◌+◌, ◌-◌, ◌*◌, ◌++◌, ℕ, suc, List, [], ap, arith}
use Rattle.std.specs.Int.{div_ceil}
use Rattle.std.proofs.Math.Nat.{mul-le-mul_left}
use Rattle.std.proofs.lemmas.Grind.{div_ceil_times}
use Rattle.hw_chart.specs.declared.grid.Axis.{Axis}
use Rattle.hw_chart.specs.Grids.{line_path}
use Rattle.hw_chart_calendar.specs.Calendars.{dated_lines, dated_mark, dated_marks, mark_at}

pub lines_next : (start : List ℕ) (a : Axis) (i end : ℕ) → i < end → dated_lines start a i (end - i) ≡ line_path a (mark_at start a i) ++ dated_lines start a (i + 1) (end - (i + 1))
lines_next start a i end lt =
    let e : end - i ≡ suc (end - (i + 1)) = omega (arith, lt) in
    ap (dated_lines start a i) e

pub lines_end : (start : List ℕ) (a : Axis) (i end : ℕ) → end ≤ i → dated_lines start a i (end - i) ≡ []
lines_end start a i end le =
    let e : end - i ≡ 0 = omega (arith, le) in
    ap (dated_lines start a i) e

pub marks_next : (start : List ℕ) (a : Axis) (i end : ℕ) → i < end → dated_marks start a i (end - i) ≡ dated_mark start a (mark_at start a i) ++ dated_marks start a (i + 1) (end - (i + 1))
marks_next start a i end lt =
    let e : end - i ≡ suc (end - (i + 1)) = omega (arith, lt) in
    ap (dated_marks start a i) e

pub marks_end : (start : List ℕ) (a : Axis) (i end : ℕ) → end ≤ i → dated_marks start a i (end - i) ≡ []
marks_end start a i end le =
    let e : end - i ≡ 0 = omega (arith, le) in
    ap (dated_marks start a i) e

-- a mark from the first one on and before the last stands from the start on and before the end
pub record Inside (from total step i : ℕ) : Type 0 where
  pub low : from ≤ i * step
  pub high : i * step < from + total

pub mark_inside : (from total step i : ℕ) → 0 < step → div_ceil from step ≤ i → i < div_ceil (from + total) step → Inside from total step i
mark_inside from total step i some first last =
    let begins = div_ceil_times from step some in
    let ends = div_ceil_times (from + total) step some in
    let more : suc i ≤ div_ceil (from + total) step = omega (arith, last) in
    let wide = mul-le-mul_left step more in
    let narrow = mul-le-mul_left step first in
    record { low = omega (arith, begins.0, narrow); high = omega (arith, ends.1, wide) }
