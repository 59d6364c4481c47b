use Rattle.std.proofs.Common.{◌≡◌, drop}
use Rattle.hw_cert.specs.Fits.{ascends}
use Rattle.hw_cert.proofs.fitting.is_ascending.Given as goal

abbrev pub invariant-loop-id : goal.invariant-loop-id
invariant-loop-id l = ascends l.before (drop l.id-index l.ids) ≡ ascends 0 l.ids
