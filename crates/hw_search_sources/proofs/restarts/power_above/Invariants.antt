use Rattle.std.proofs.Common.{◌≡◌, ℕ, ◌+◌, ◌-◌, ◌^◌, ◌≤◌}
use Rattle.hw_search_sources.proofs.restarts.power_above.Given as goal

abbrev pub invariant-loop-power : goal.invariant-loop-power
invariant-loop-power l = record { exponent : ℕ; some : 1 ≤ exponent; is : l.power ≡ 2 ^ exponent; low : 2 ^ (exponent - 1) ≤ l.i; small : l.power ≤ 200000 }

abbrev pub decreases-loop-power : goal.decreases-loop-power
decreases-loop-power l = l.i + 1 - l.power
