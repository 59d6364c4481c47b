use Rattle.std.proofs.Common.{◌≡◌, ◌++◌, drop}
use Rattle.hw_port_named.specs.Closed.{passes_told}
use Rattle.hw_port_named.proofs.closed.put_passes.Given as goal

abbrev pub invariant-loop-pass : goal.invariant-loop-pass
invariant-loop-pass l = l.out.items ++ passes_told l.parts l.ship (drop l.pass-index l.route) ≡ l.fn.out.items ++ passes_told l.parts l.ship l.route
