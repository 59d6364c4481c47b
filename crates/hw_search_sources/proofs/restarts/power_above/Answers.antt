use Rattle.std.proofs.Common.{◌≡◌, suc, ◌*◌, ◌-◌, ◌^◌, ◌≤◌, ap, arith}
use Rattle.hw_search_laws.proofs.LubyRules.{double}
use Rattle.hw_search_sources.proofs.restarts.power_above.Goals as goal

pub loop-power-preserved : goal.loop-power-preserved
loop-power-preserved c =
    let i = c.loop-power.invariant in
    let k = c.loop-power.invariant.exponent in
    let d : 2 ^ suc k ≡ 2 * 2 ^ k = double k in
    let back : suc k - 1 ≡ k = omega arith in
    let low : 2 ^ (suc k - 1) ≤ c.args.i = omega (arith, ap (λ n. 2 ^ n) back, i.is, c.loop-power-test.true) in
    record { exponent = suc k; some = omega arith; is = omega (arith, d, i.is); low = low; small = omega (arith, c.loop-power-test.true, c.requires.few) }
