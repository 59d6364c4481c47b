use Rattle.std.proofs.Common.{◌≡◌}
use Rattle.hw_price_adviser_tests.proofs.checked.checked.Given as goal

abbrev pub invariant-loop-line : goal.invariant-loop-line
invariant-loop-line l = l.checker.problem ≡ l.flat
