use Rattle.std.proofs.Common.{◌≡◌, take}
use Rattle.hw_cert_course.specs.Raising.{raised_prices}
use Rattle.hw_cert_course.proofs.raising.raised_prices.Given as goal

abbrev pub invariant-loop-one : goal.invariant-loop-one
invariant-loop-one l = l.items.items ≡ raised_prices l.by (take l.one-index l.prices)
