use Rattle.std.proofs.Common.{◌≡◌, ℕ, suc, ◌+◌, ◌*◌, ◌/◌, ◌-◌, ◌^◌, ◌<◌, sym, ap, ◌∙◌, arith}
use Rattle.hw_search_laws.specs.Luby.{luby}
use Rattle.hw_search_laws.proofs.LubyRules.{double, luby_rule}
use Rattle.hw_search_sources.specs.Powers.{IsPowerAbove}
use Rattle.hw_search_sources.proofs.restarts.luby.Goals as goal

half : (i power : ℕ) → (a : IsPowerAbove i power) → power / 2 ≡ 2 ^ (a.exponent - 1)
half i power a =
    let e : suc (a.exponent - 1) ≡ a.exponent = omega (arith, a.some) in
    let d : 2 ^ suc (a.exponent - 1) ≡ 2 * 2 ^ (a.exponent - 1) = double (a.exponent - 1) in
    omega (arith, d, a.is, ap (λ n. 2 ^ n) e)

pub loop-rest-preserved : goal.loop-rest-preserved
loop-rest-preserved c =
    let i = c.loop-rest.invariant in
    let a = c.loop-rest.invariant.above in
    let h : c.loop-rest.power / 2 ≡ 2 ^ (a.exponent - 1) = half c.loop-rest.rest c.loop-rest.power a in
    let below : c.loop-rest.rest + 1 < 2 ^ a.exponent = omega (arith, a.high, a.is, c.loop-rest-test.true) in
    let rule : luby c.loop-rest.rest ≡ luby (c.loop-rest.rest + 1 - 2 ^ (a.exponent - 1)) = (luby_rule c.loop-rest.rest a.exponent a.some).1 a.low below in
    let next : luby (c.loop-rest.rest + 1 - c.loop-rest.power / 2) ≡ luby c.args.i = ap (λ n. luby (c.loop-rest.rest + 1 - n)) h ∙ sym rule ∙ i.same in
    record { same = next; some = omega (arith, h, a.low); few = omega (arith, h, i.few, a.low); above = c.power_above-power-in-loop-rest.ensures.power }

pub returns : goal.returns
returns c =
    let i = c.loop-rest.invariant in
    let a = c.loop-rest.invariant.above in
    let h = half c.loop-rest.rest c.loop-rest.power a in
    let e : c.loop-rest.rest + 1 ≡ 2 ^ a.exponent = c.loop-rest-test.false ∙ a.is in
    record { value = h ∙ sym ((luby_rule c.loop-rest.rest a.exponent a.some).0 e) ∙ i.same }
