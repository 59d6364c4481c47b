use Rattle.std.proofs.Common.{◌≡◌, ◌++◌, drop}
use Rattle.hw_port_named.specs.Closed.{closings_told}
use Rattle.hw_port_named.proofs.closed.put_closings.Given as goal

abbrev pub invariant-loop-closing : goal.invariant-loop-closing
invariant-loop-closing l = l.out.items ++ closings_told l.name l.slots.low l.slots.high (drop l.closing-index l.closings) ≡ l.fn.out.items ++ closings_told l.name l.slots.low l.slots.high l.closings
