use Rattle.std.proofs.Common.{◌≡◌, drop, map}
use Rattle.hw_price_laws.specs.declared.tariff.Due.{Due}
use Rattle.hw_cert.specs.Fits.{ascends}
use Rattle.hw_cert.proofs.fitting.tolls_ascend.Given as goal

abbrev pub invariant-loop-due : goal.invariant-loop-due
invariant-loop-due l = ascends l.before (map (λ (due : Due). due.toll) (drop l.due-index l.prices)) ≡ ascends 0 (map (λ (due : Due). due.toll) l.prices)
