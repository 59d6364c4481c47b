use Rattle.std.proofs.Common.{ℕ, ◌<◌, get_or}
use Rattle.hw_price_laws.specs.declared.tariff.Due.{Due}
use Rattle.hw_price_laws.specs.Prices.{DueFits}
use Rattle.hw_price_tests.proofs.fitting.each_due_fits.Given as goal

abbrev pub invariant-loop-due : goal.invariant-loop-due
invariant-loop-due l = (k : ℕ) (d : Due) → k < l.due-index → DueFits l.tolls (get_or l.dues k d)
