use Rattle.std.proofs.Common.{◌≡◌, drop}
use Rattle.hw_model.specs.Rules.{fleet_in}
use Rattle.hw_model.proofs.fleet.fleet_in.Given as goal

abbrev pub invariant-loop-step : goal.invariant-loop-step
invariant-loop-step l = fleet_in l.now (drop l.step-index l.later) l.slot ≡ fleet_in l.fn.fleet l.fn.later l.slot
