use Rattle.std.proofs.Common.{◌≡◌, drop}
use Rattle.hw_cert_closes.specs.Closing.{are_false}
use Rattle.hw_cert_closes.proofs.closed.are_false.Given as goal

abbrev pub invariant-loop-lit : goal.invariant-loop-lit
invariant-loop-lit l = are_false l.room (drop l.lit-index l.lits) ≡ are_false l.room l.lits
