-- Runs of closed slots, one slot on.
use Rattle.std.proofs.Common.{◌≡◌, ◌≤◌, ◌<◌, ◌+◌, ◌-◌, ◌++◌, ℕ, suc, Bool, true, false, [], ap, refl, arith}
use Rattle.hw_chart.specs.declared.row.Sailings.{Sailings}
use Rattle.hw_chart_port.specs.Charts.{ChartParts}
use Rattle.hw_chart_port.specs.Closings.{closing_at, closings_from, run_end}

pub closings_next : (chart : ChartParts) (v : ℕ) (window : Sailings) (slot end : ℕ) → slot < end → closings_from chart v window slot (end - slot) ≡ closing_at chart v window slot ++ closings_from chart v window (slot + 1) (end - (slot + 1))
closings_next chart v window slot end lt =
    let e : end - slot ≡ suc (end - (slot + 1)) = omega (arith, lt) in
    ap (closings_from chart v window slot) e

pub closings_end : (chart : ChartParts) (v : ℕ) (window : Sailings) (slot end : ℕ) → end ≤ slot → closings_from chart v window slot (end - slot) ≡ []
closings_end chart v window slot end le =
    let e : end - slot ≡ 0 = omega (arith, le) in
    ap (closings_from chart v window slot) e

pub run_goes : (shut : ℕ → Bool) (slot end result : ℕ) → slot < end → shut slot ≡ true → result ≡ run_end shut (slot + 1) (end - (slot + 1)) → result ≡ run_end shut slot (end - slot)
run_goes shut slot end result lt closed e =
    let more : end - slot ≡ suc (end - (slot + 1)) = omega (arith, lt) in
    rw (more, closed) e

pub run_stops : (shut : ℕ → Bool) (slot end : ℕ) → slot < end → shut slot ≡ false → slot ≡ run_end shut slot (end - slot)
run_stops shut slot end lt not_shut =
    let more : end - slot ≡ suc (end - (slot + 1)) = omega (arith, lt) in
    rw (more, not_shut) refl

pub run_over : (shut : ℕ → Bool) (slot end : ℕ) → end ≤ slot → slot ≡ run_end shut slot (end - slot)
run_over shut slot end le =
    let none : end - slot ≡ 0 = omega (arith, le) in
    rw none refl
